-- How a run stands as it opens, what the type knows of its editions then, and by which of them it serves.
use Rattle.std.proofs.Common.{◌≡◌, inl, ℕ, suc, ◌+◌, true, [], Option, None, Some, option_map, refl, sym, ap, subst, arith}
use Rattle.mpm_base.specs.Front.{Binds, FrontSeen}
use Rattle.mpm_base.specs.Store.{StoreSeen, StoreTold}
use Rattle.conn_state.specs.Known.{KnownOutside}
use Rattle.board_book.specs.Book.{SeenBook}
use Rattle.board_book.specs.Editions.{orders_in}
use Rattle.listener_round.specs.FirstNumbersInside.{AreNumbers, opened_book}
use Rattle.listener.specs.FoldsInside.{FoldsJoin}
use Rattle.listener_round.specs.Generations.{Opening, known_edition, made_edition, renewed, head_limits_of}
use Rattle.listener_round.specs.FrontInside.{IsKnownOfFront, clients_known}
use Rattle.listener_round.specs.OrdersInside.{KnowsComing, ServesNewest, known_outside, opening_by}
use Rattle.listener_round.specs.StandingInside.{StandsSo, later_edition, standing}
use Rattle.listener.specs.TurnsInside.{IsBegun, SeenListener}
use Rattle.listener_round.specs.declared.edition.LoadedEdition.{LoadedEdition}
use Rattle.listener_round.specs.declared.edition.NamedConfig.{NamedConfig}
use Rattle.listener_round.specs.declared.run_numbers.RunNumbers.{RunNumbers}
use Rattle.listener.proofs.StartedLemmas.{IsIdle, nothing-bound, opens, starts-opened, unused-opened}

-- ## What the type knows

-- what its front tells of its clients
pub known-front : (known : Option KnownOutside) (o : Opening) → known ≡ Some (known_outside o) → IsKnownOfFront known o.front.told
known-front known o is = ap clients_known is

-- what is known of an edition behind so many further ones
later-known : (o : Opening) (number further : ℕ) → number ≡ suc further
    → known_edition o number ≡ later_edition o.name o.config o.store.told further
later-known o number further is =
    let one : further + 1 ≡ suc further = omega (arith) in
    subst (λ (n : ℕ). known_edition o n ≡ later_edition o.name o.config o.store.told further) (sym is)
    (subst (λ (n : ℕ). known_edition o (suc further) ≡ option_map (λ (t : StoreTold). made_edition o.config o.name (renewed n t).files) o.store.told) (sym one) refl)

-- each edition that is still to come
pub knows-coming : (known : Option KnownOutside) (c : NamedConfig) (e : LoadedEdition) (store : StoreSeen) (front : FrontSeen) (n : RunNumbers) (b : SeenBook)
    → known ≡ Some (known_outside (opening_by c e store front)) → b ≡ opened_book n → KnowsComing known b c store.told
knows-coming known c e store front n b is opened =
    let o = opening_by c e store front in
    let none : orders_in b ≡ 0 = ap orders_in opened in
    subst (λ (k : Option KnownOutside). KnowsComing k b c store.told) (sym is)
    (λ further. later-known o (orders_in b + (further + 1)) further (omega (arith, none)))

-- the first generation is served by what the server opened by
pub serves-first : (known : Option KnownOutside) (c : NamedConfig) (e : LoadedEdition) (store : StoreSeen) (front : FrontSeen) (n : RunNumbers) (b : SeenBook)
    → known ≡ Some (known_outside (opening_by c e store front)) → b ≡ opened_book n → e.limits ≡ head_limits_of c.config.now
    → ServesNewest known b e
serves-first known c e store front n b is opened limits =
    subst (λ (k : Option KnownOutside). ServesNewest k b e) (sym is)
    (subst (λ (x : SeenBook). ServesNewest (Some (known_outside (opening_by c e store front))) x e) (sym opened)
    (record { number = 0; found = refl; is_of = record { limits_are = limits; site_is = refl } }))

-- ## How a run stands

-- a store that wasn't renewed tells the same
unrenewed : (told : Option StoreTold) → told ≡ option_map (renewed 0) told
unrenewed None = refl
unrenewed (Some t) = refl

-- so it stands where nothing was done yet
stands-opened : FoldsJoin → (known : Option KnownOutside) (c : NamedConfig) (e : LoadedEdition) (store : StoreSeen) (old front : FrontSeen)
    (n : RunNumbers) (b : SeenBook) → b ≡ opened_book n → e.stop_ms ≡ c.config.now.current.stop_ms → front.counts.commands ≡ old.counts.commands
    → StandsSo known (opening_by c e store old) n (record { entries = []; ended = [] }) 0 0 (standing e.stop_ms store front b)
stands-opened joins known c e store old front n b opened timeout same =
    subst (λ (x : SeenBook). StandsSo known (opening_by c e store old) n (record { entries = []; ended = [] }) 0 0 (standing e.stop_ms store front x))
    (sym opened)
    (record {
      passes = refl;
      folded = record {
        entries = [];
        ended = [];
        made = tt;
        few = λ p past. refl;
        timely = tt;
        base_is = refl;
        record_is = sym (joins.nothing n.slots n.children n.passes n.shape);
        closed = refl;
        answered = tt;
      };
      past_is = refl;
      outside = tt;
      ordered = tt;
      timeout = ap (λ (ms : ℕ). Some ms) (sym timeout);
      given = inl (omega (arith, same));
      ending = refl;
      renewals = 0;
      each = omega (arith);
      no_more = omega (arith);
      store = record { told = unrenewed store.told; failed = inl (omega (arith)) };
    })

-- a run begins over a front that was bound, and of which nothing else was asked
pub begun-opened : FoldsJoin → (known : Option KnownOutside) (store : StoreSeen) (old : FrontSeen) (n : RunNumbers) (l : SeenListener)
    → AreNumbers n → l.board.book ≡ opened_book n → l.store ≡ store → l.edition.stop_ms ≡ l.config.config.now.current.stop_ms
    → Binds old l.front n.listen n.control true → IsIdle l.front.told l.calls → IsBegun known (opening_by l.config l.edition store old) n l
begun-opened joins known store old n l numbers opened same timeout binds idle = record {
  book = opened;
  opening =
      record {
        opened = opens n l.board.book numbers opened;
        none = ap (λ (b : SeenBook). b.history) opened;
      };
  stands =
      subst (λ (s : StoreSeen). StandsSo known (opening_by l.config l.edition store old) n (record { entries = []; ended = [] }) 0 0
      (standing l.edition.stop_ms s l.front l.board.book)) (sym same)
      (stands-opened joins known l.config l.edition store old l.front n l.board.book opened timeout binds.commands);
  unused = unused-opened l.front.told l.calls idle;
  unasked = idle.calls_are;
  words = binds.words;
  answers = binds.answers_stay;
  first =
      λ none. starts-opened n l.front.told l.calls l.board.book opened idle (nothing-bound n old l.front binds none);
}
