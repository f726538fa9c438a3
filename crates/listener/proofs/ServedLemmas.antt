-- By what the connections of a run were served, and how a run goes on that opened by another count of its store, or over another front.
use Rattle.std.proofs.Common.{◌≡◌, ℕ, zero, suc, ◌+◌, ◌≤◌, List, [], ◌∷◌, ◌++◌, map, Option, None, Some, option_map, IfSome, refl, sym, ap, subst, arith}
use Rattle.std.proofs.lemmas.Option.{IfSome_then}
use Rattle.mpm_base.specs.Front.{FrontSeen}
use Rattle.mpm_base.specs.Store.{StoreSeen, StoreTold, bytes_of}
use Rattle.mpm_config.specs.Config.{Configuration}
use Rattle.conn_machine.specs.declared.event.Commanded.{Commanded}
use Rattle.conn_machine.specs.declared.event.Commanded.TheVariants as commanded
use Rattle.conn_machine.specs.declared.event.Entry.{Entry}
use Rattle.conn_machine.specs.declared.event.Event.{Event}
use Rattle.conn_machine.specs.declared.event.Event.TheVariants as event
use Rattle.conn_machine.specs.declared.event.Refusal.{Refusal}
use Rattle.conn_machine.specs.declared.event.Refusal.TheVariants as refusal
use Rattle.conn_machine.specs.declared.folded.Edition.{Edition}
use Rattle.conn_machine.specs.declared.state.State.{State}
use Rattle.conn_machine.specs.Folds.{HaveBegun, first_edition}
use Rattle.conn_machine.specs.Table.{next}
use Rattle.conn_state.specs.Answered.{SeenEnded}
use Rattle.conn_state.specs.Known.{IsOfEdition, KnownEdition, KnownOutside}
use Rattle.board.specs.Board.{EndedOfOutside, SeenBoard}
use Rattle.board_book.specs.Book.{SeenBook}
use Rattle.board_book.specs.Editions.{KeepsEditions}
use Rattle.board.specs.Editions.{GenerationsKeepTheirEditions}
use Rattle.board.specs.ReportLine.{line_of}
use Rattle.listener_round.specs.FirstNumbers.{folded_by, opened_by}
use Rattle.listener_round.specs.Generations.{Opening, config_among, config_at, known_edition, known_editions, made_edition, renewed}
use Rattle.listener_round.specs.Folded.{HasFolded, all_entries, whole_book}
use Rattle.listener_round.specs.Orders.{AreOrdered, HasNoConfig, HasNoSite, IsDoneBy, IsOrdered, IsRefusedAs, MakesSite, edition_with, ending_by, orders_with, shape_by}
use Rattle.listener_round.specs.OrdersInside.{known_outside}
use Rattle.listener.specs.Served.{AreServedIn, ServesByEditions}
use Rattle.listener_round.specs.declared.run_numbers.RunNumbers.{RunNumbers}

-- ## Each connection that ended

-- those that are of the outside were served by the edition of their generation
served-in : (o : Opening) (book : SeenBook) (ended : List SeenEnded) → EndedOfOutside (Some (known_outside o)) book ended
    → AreServedIn (known_editions o) book ended
served-in o book [] ends = tt
served-in o book (e ∷ ended) ends =
    let its = ends.0.edition in
    (record { number = its.number; found = its.found; is_of = its.is_of }, served-in o book ended ends.1)

-- each edition of the record by which a run opens is that of a generation that has begun
begun-opened : (n : RunNumbers) → HaveBegun (opened_by n) (folded_by n)
begun-opened n zero e found =
    let same : first_edition ≡ e = cc found in
    subst (λ (x : Edition). x.generation ≤ 0) same (omega (arith))
begun-opened n (suc place) e found = absurd (cc found)

-- of a book that has all entries each is of the outside that is of what was folded, or of what is kept
pub serves-editions : GenerationsKeepTheirEditions
    → ((known : Option KnownOutside) (book : SeenBook) (ended ended' : List SeenEnded) → EndedOfOutside known book ended → EndedOfOutside known book ended'
    → EndedOfOutside known book (ended ++ ended'))
    → ((known : Option KnownOutside) (old new : SeenBook) (ended : List SeenEnded) → KeepsEditions old new → EndedOfOutside known old ended
    → EndedOfOutside known new ended)
    → (o : Opening) (n : RunNumbers) (b : SeenBoard) (before : HasFolded n b.book)
    → EndedOfOutside (Some (known_outside o)) (whole_book n before.entries) before.ended → EndedOfOutside (Some (known_outside o)) b.book b.ended
    → ServesByEditions o n b before
serves-editions keep join stay o n b before folded kept =
    let known = Some (known_outside o) in
    let whole = whole_book n (all_entries n b.book before) in
    let earlier : KeepsEditions (whole_book n before.entries) whole = keep.keeps (whole_book n before.entries) whole b.book.history refl refl refl in
    let later : KeepsEditions b.book whole = keep.unfolded b.book whole before.entries (map line_of before.ended) (begun-opened n) before.base_is before.record_is refl in
    served-in o whole (before.ended ++ b.ended)
    (join known whole before.ended b.ended (stay known (whole_book n before.entries) whole before.ended earlier folded) (stay known b.book whole b.ended later kept))

-- ## An opening that differs in the counts of its store, and in its front

-- the same over this store and this front
abbrev pub reopened : Opening → StoreSeen → FrontSeen → Opening
reopened o store front = record o { store = store; front = front }

-- where the store tells the same, the editions have the same configurations
config-reopened : (o : Opening) (store : StoreSeen) (front : FrontSeen) (number : ℕ) → store.told ≡ o.store.told
    → config_at (reopened o store front) number ≡ config_at o number
config-reopened o store front zero same = refl
config-reopened o store front (suc n) same =
    ap (λ (told : Option StoreTold). option_map (λ (t : StoreTold). config_among o.config o.name (renewed (suc n) t).files) told) same

-- and the same is known of them
known-reopened : (o : Opening) (store : StoreSeen) (front : FrontSeen) (number : ℕ) → store.told ≡ o.store.told
    → known_edition (reopened o store front) number ≡ known_edition o number
known-reopened o store front zero same = refl
known-reopened o store front (suc n) same =
    ap (λ (told : Option StoreTold). option_map (λ (t : StoreTold). made_edition o.config o.name (renewed (suc n) t).files) told) same

-- so connections are served by them
pub served-reopened : (o : Opening) (store : StoreSeen) (front : FrontSeen) (book : SeenBook) (ended : List SeenEnded) → store.told ≡ o.store.told
    → AreServedIn (known_editions o) book ended → AreServedIn (known_editions (reopened o store front)) book ended
served-reopened o store front book [] same served = tt
served-reopened o store front book (e ∷ ended) same served =
    let its = served.0 in (
      record {
        number = its.number;
        found = its.found;
        is_of =
            subst (λ (k : Option (Option KnownEdition)). IfSome k (λ (x : Option KnownEdition). IsOfEdition x e.limits e.site))
            (sym (known-reopened o store front its.number same)) its.is_of;
      },
      served-reopened o store front book ended same served.1,
    )

-- a restart is refused for the same
refused-reopened : (o : Opening) (store : StoreSeen) (front : FrontSeen) (number : ℕ) (s : State) (reason : Refusal) → store.told ≡ o.store.told
    → IsRefusedAs o number s reason → IsRefusedAs (reopened o store front) number s reason
refused-reopened o store front number s refusal.Late same is = is
refused-reopened o store front number s refusal.Absent same is =
    (is.0, subst (λ (told : Option StoreTold). IfSome told (λ (t : StoreTold). bytes_of o.name (renewed number t).files ≡ None)) (sym same) is.1)
refused-reopened o store front number s refusal.Conf same is = (
  is.0,
  subst (λ (told : Option StoreTold). IfSome told (λ (t : StoreTold). HasNoConfig (reopened o store front) (renewed number t))) (sym same)
      (IfSome_then o.store.told is.1 (λ t none. record { text = none.text; found = none.found; refused = none.refused })),
)
refused-reopened o store front number s refusal.Site same is = (
  is.0,
  subst (λ (told : Option StoreTold). IfSome told (λ (t : StoreTold). HasNoSite (reopened o store front) (renewed number t))) (sym same)
      (IfSome_then o.store.told is.1 (λ t none. record {
        config = none.config;
        accepted = none.accepted;
        fault = none.fault;
        limit = none.limit;
        lacks = none.lacks;
      })),
)
refused-reopened o store front number s refusal.Store same is = is
refused-reopened o store front number s refusal.NoMemory same is = tt

-- a command is done by the same
done-reopened : (o : Opening) (store : StoreSeen) (front : FrontSeen) (orders edition : ℕ) (s : State) (c : Commanded) → store.told ≡ o.store.told
    → IsDoneBy o orders edition s c → IsDoneBy (reopened o store front) orders edition s c
done-reopened o store front orders edition s (commanded.Graceful shape) same is = (
  subst (λ (c : Option (Option Configuration)). IfSome c (λ (x : Option Configuration). option_map shape_by x ≡ Some shape))
      (sym (config-reopened o store front (orders + 1) same)) is.0,
  subst (λ (told : Option StoreTold). IfSome told (λ (t : StoreTold). MakesSite (reopened o store front) (renewed (orders + 1) t))) (sym same)
      (IfSome_then o.store.told is.1 (λ t made. record {
        config = made.config;
        accepted = made.accepted;
        site = made.site;
        makes = made.makes;
        within = made.within;
      })),
)
done-reopened o store front orders edition s (commanded.Refused reason) same is = refused-reopened o store front (orders + 1) s reason same is
done-reopened o store front orders edition s (commanded.GracefulStop until) same is =
    subst (λ (c : Option (Option Configuration)). IfSome c (λ (x : Option Configuration). option_map (ending_by s.moment) x ≡ Some until))
    (sym (config-reopened o store front edition same)) is
done-reopened o store front orders edition s (commanded.Stop why) same is = tt

-- so is each event
event-reopened : (o : Opening) (store : StoreSeen) (front : FrontSeen) (orders edition : ℕ) (s : State) (e : Event) → store.told ≡ o.store.told
    → IsOrdered o orders edition s e → IsOrdered (reopened o store front) orders edition s e
event-reopened o store front orders edition s (event.Command c) same is = done-reopened o store front orders edition s c same is
event-reopened o store front orders edition s (event.Accept slot) same is = tt
event-reopened o store front orders edition s (event.Park name kind) same is = tt
event-reopened o store front orders edition s (event.Hold name) same is = tt
event-reopened o store front orders edition s (event.Queue name) same is = tt
event-reopened o store front orders edition s (event.Start name) same is = tt
event-reopened o store front orders edition s (event.Answer name ask) same is = tt
event-reopened o store front orders edition s (event.Linger name cause) same is = tt
event-reopened o store front orders edition s (event.Close name cause tail) same is = tt
event-reopened o store front orders edition s (event.Ready slot) same is = tt
event-reopened o store front orders edition s (event.Tick m) same is = tt
event-reopened o store front orders edition s (event.StartChild k) same is = tt
event-reopened o store front orders edition s (event.Retire k) same is = tt

-- so is each entry of a history
pub ordered-reopened : (o : Opening) (store : StoreSeen) (front : FrontSeen) (orders edition : ℕ) (s : State) (history : List Entry) → store.told ≡ o.store.told
    → AreOrdered o orders edition s history → AreOrdered (reopened o store front) orders edition s history
ordered-reopened o store front orders edition s [] same are = tt
ordered-reopened o store front orders edition s (e ∷ history) same are = (
  event-reopened o store front orders edition s e.event same are.0,
  ordered-reopened o store front (orders_with e.event orders) (edition_with e.event orders edition) (next s e.event) history same are.1,
)
