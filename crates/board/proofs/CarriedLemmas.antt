-- Connections stay of their generation.
use Rattle.std.proofs.Common.{◌≡◌, ℕ, Option, None, Some}
use Rattle.http_read.specs.declared.request.Limits.{Limits}
use Rattle.file_table.specs.Site.{SeenSite}
use Rattle.conn_state.specs.Known.{KnownOutside}
use Rattle.board_book.specs.Book.{SeenBook}
use Rattle.board_book.specs.Editions.{edition_of}
use Rattle.board.specs.Editions.{IsOfGeneration}

-- a connection stays of its generation wherever that keeps its edition
pub generation_carried : (known : Option KnownOutside) (old new : SeenBook) (generation : ℕ) (limits : Limits) (site : SeenSite)
    → ((number : ℕ) → edition_of old generation ≡ Some number → edition_of new generation ≡ Some number)
    → IsOfGeneration known old generation limits site → IsOfGeneration known new generation limits site
generation_carried None old new generation limits site keeps is = tt
generation_carried (Some k) old new generation limits site keeps is =
    record { number = is.number; found = keeps is.number is.found; is_of = is.is_of }
