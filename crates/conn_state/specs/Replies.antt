-- The reply stream: what is sent for the notes of a connection and the bytes that it received.
-- Why it is so stands in docs/DECISIONS.md: 30, What may have been sent behind the replies.
use Rattle.std.specs.Prelude.{◌≡◌, ◌⊎◌, ℕ, true, false, List, [], ◌∷◌, ◌++◌, ◌||◌, Option, Some, None, slice_get, slice_range, is_some, if◌then◌else◌, ⊤}
use Rattle.std.proofs.Common.{inl, inr}
use Rattle.mpm_base.specs.declared.conn.Ask.{Ask}
use Rattle.mpm_base.specs.declared.note.Note.{Note}
use Rattle.mpm_base.specs.declared.store.File.{File}
use Rattle.mpm_base.specs.Notes.{says_last}
use Rattle.http_read.specs.declared.request.Limits.{Limits}
use Rattle.http_read.specs.RequestParts.{RequestParts}
use Rattle.http_read.specs.Head.{BeginsHead}
use Rattle.http_read.specs.Requests.{ReadRefusal}
use Rattle.file_table.specs.Site.{SeenSite}
use Rattle.http_core.specs.Ask.{ask_for, plan_for}
use Rattle.http_core.specs.Reply.{IsReply, IsRefusalReply}
use Rattle.http_core.specs.Code.{continue_text}
use Rattle.http_core.specs.declared.reply.Body.{Body}
use Rattle.http_core.specs.declared.reply.Body.TheVariants as body
use Rattle.http_core.specs.declared.reply.Reply.{Reply}
use Rattle.conn_state.specs.Items.{Item, BeginsItem, AreFirst}

-- ## What an item asks of the table

-- a refusal closes the connection
abbrev pub refusal_ask : ReadRefusal → Ask
refusal_ask refusal = record { asked_close = false; refused = true; code = refusal.code; page = false }

-- what an item asks of the table
abbrev pub item_ask : SeenSite → Item → Ask
item_ask site (inl request) = ask_for site request
item_ask site (inr refusal) = refusal_ask refusal

-- the next item of the bytes asks this
pub record IsAskedIn (site : SeenSite) (limits : Limits) (bytes : List ℕ) (ask : Ask) : Type 0 where
  pub item : Item
  pub size : ℕ
  pub begins : BeginsItem limits bytes item size
  pub asks : ask ≡ item_ask site item

-- ## Notes

-- the note is one of a response to what is asked
pub record IsNoteFor (ask : Ask) (note : Note) : Type 0 where
  pub code : note.code ≡ ask.code
  pub asked_close : note.asked_close ≡ (ask.asked_close || ask.refused)
  pub page : is_some note.page ≡ ask.page
  pub last : note.asked_close ≡ true → note.last ≡ true

-- a note that another one follows isn't the last
abbrev pub IsLastWhere : Note → List Note → Type 0
IsLastWhere note [] = ⊤
IsLastWhere note (next ∷ notes) = note.last ≡ false

-- each item has its note, in order, and no note but the last one says that it is the last
abbrev pub AreNotesOf : SeenSite → List Item → List Note → Type 0
AreNotesOf site [] [] = ⊤
AreNotesOf site [] (note ∷ notes) = ⊥
AreNotesOf site (item ∷ items) [] = ⊥
AreNotesOf site (item ∷ items) (note ∷ notes) =
    IsNoteFor (item_ask site item) note × IsLastWhere note notes × AreNotesOf site items notes

-- the notes are those of the first items of the bytes, behind which this is left
pub record IsFitting (site : SeenSite) (limits : Limits) (notes : List Note) (bytes : List ℕ) (items : List Item) (rest : List ℕ) : Type 0 where
  pub first : AreFirst limits items rest bytes
  pub noted : AreNotesOf site items notes

-- ## Replies

-- the bytes of a file from the one place up to the other, which isn't one of them
abbrev pub file_range : Option File → ℕ → ℕ → List ℕ
file_range None from to = []
file_range (Some file) from to = slice_range file.bytes from to

-- the bytes of a body: none, its own, or those of a file of the site
abbrev pub body_bytes : SeenSite → Body → List ℕ
body_bytes site body.Nothing = []
body_bytes site (body.Own bytes) = bytes
body_bytes site (body.File file from to) = file_range (slice_get site.files file) from to

-- the reply is the one to the item with the note; that to a refusal has the refusal's code
abbrev pub IsReplyTo : SeenSite → Item → Note → Reply → Type 0
IsReplyTo site (inl request) note reply = IsReply site (plan_for site request) note [] reply
IsReplyTo site (inr refusal) note reply = (note.code ≡ refusal.code) × IsRefusalReply note [] reply

-- the bytes are the response to the item with the note: the head of the reply, and the bytes of its body
pub record IsResponse (site : SeenSite) (item : Item) (note : Note) (bytes : List ℕ) : Type 0 where
  pub reply : Reply
  pub is_reply : IsReplyTo site item note reply
  pub bytes_are : bytes ≡ reply.head ++ body_bytes site reply.body

-- what is sent before the response: where the head was accepted and expects it, the response that tells the client to send the
-- body (RFC 9110, section 15.2.1), also where the body was then refused
abbrev pub first_part : Item → List ℕ
first_part (inl request) = if request.expects then continue_text else []
first_part (inr refusal) = if refusal.expected then continue_text else []

-- a reply to the first item, and replies to the others
pub record RepliesAnd (site : SeenSite) (Others : List ℕ → Type 0) (item : Item) (note : Note) (bytes : List ℕ) : Type 0 where
  pub response : List ℕ
  pub is_response : IsResponse site item note response
  pub further : List ℕ
  pub others : Others further
  pub whole : bytes ≡ first_part item ++ response ++ further

-- the bytes are the replies to the items with their notes, in order
abbrev pub AreReplies : SeenSite → List Item → List Note → List ℕ → Type 0
AreReplies site [] [] bytes = bytes ≡ []
AreReplies site [] (note ∷ notes) bytes = ⊥
AreReplies site (item ∷ items) [] bytes = ⊥
AreReplies site (item ∷ items) (note ∷ notes) bytes = RepliesAnd site (AreReplies site items notes) item note bytes

-- ## The next head

-- an accepted head stands at the front of the bytes whose client waits to be told to send the body
pub record Expects (limits : Limits) (bytes : List ℕ) : Type 0 where
  pub request : RequestParts
  pub head_len : ℕ
  pub head : BeginsHead limits bytes request head_len
  pub expects : request.expects ≡ true

-- what is sent behind the replies once the next head was read: the response that tells the client to send the body, where it
-- waits for that and no reply was the last
pub record IsInterim (limits : Limits) (notes : List Note) (rest interim : List ℕ) : Type 0 where
  pub expected : says_last notes ≡ false → Expects limits rest → interim ≡ continue_text
  pub unexpected : ¬ (Expects limits rest) ⊎ (says_last notes ≡ true) → interim ≡ []

-- what may have been sent behind the replies: nothing, or that response, where the next head expects it and no reply was the last
abbrev pub MayFollow : Limits → List Note → List ℕ → List ℕ → Type 0
MayFollow limits notes rest interim =
    (interim ≡ []) ⊎ ((interim ≡ continue_text) × (says_last notes ≡ false) × Expects limits rest)
