-- How a front counts on from one book of a run to another.
use Rattle.std.proofs.Common.{◌≡◌, ◌≢◌, ◌⊎◌, inl, inr, ◌<◌, ℕ, ◌+◌, Bool, true, false, List, None, Option, Some, refl, sym, ap, subst, ◌∙◌, arith, ◌≤◌, max}
use Rattle.mpm_base.specs.CommandWord.{command_word}
use Rattle.mpm_base.specs.Count.{CountsWhere, NeverFalls, Rises, RisesByOne, RisesJustBy, greatest_count, next_count}
use Rattle.mpm_base.specs.Front.{Accepts, Commands, FrontCounts, FrontSeen, Waits, is_handed}
use Rattle.mpm_base.specs.GivenWords.{says_word}
use Rattle.mpm_base.specs.Link.{LinkSeen}
use Rattle.mpm_base.specs.declared.front.Arrival.{Arrival}
use Rattle.mpm_base.specs.declared.front.Arrival.TheVariants as arrival
use Rattle.mpm_base.specs.declared.front.Woke.{Woke}
use Rattle.mpm_base.specs.declared.given_words.GivenWords.{GivenWords}
use Rattle.mpm_base.specs.declared.script_line.CommandWord.{CommandWord}
use Rattle.mpm_base.specs.declared.script_line.CommandWord.TheVariants as word
use Rattle.conn_machine.specs.States.{is_serving}
use Rattle.board_book.specs.Book.{SeenBook}
use Rattle.board_book.specs.Editions.{orders_in}
use Rattle.listener_round.specs.CountedInside.{CountsOn, CountsUntil, LacksLink}
use Rattle.listener_round.specs.OrdersInside.{MayHush}
use Rattle.listener_round.proofs.LineLemmas.{IsIdle, other-word}
use Rattle.run_report.proofs.CountLemmas.{rises-behind}
use Rattle.conn_machine.specs.declared.state.State.{State}
use Rattle.listener_round.proofs.CommandlessLemmas.{orders-kept}
use Rattle.listener_round.proofs.PartLemmas.{ActsOrderless}

-- ## Counts

-- one that didn't rise
pub just-none : (a : ℕ) → RisesJustBy 0 a a
just-none a = (omega arith, λ below. omega arith)

pub just-as : (many many' old new new' : ℕ) → RisesJustBy many old new → new' ≡ new → many' ≡ many → RisesJustBy many' old new'
just-as many many' old new new' rises same as_many =
    subst (λ (n : ℕ). RisesJustBy n old new') (sym as_many) (subst (RisesJustBy many old) (sym same) rises)

-- one that rose by one more
pub just-more : (many old new new' : ℕ) → RisesJustBy many old new → RisesByOne new new' → RisesJustBy (many + 1) old new'
just-more many old new new' rises one = (
  omega (arith, rises.0, one.0),
  λ below.
      let less : new < greatest_count = omega (arith, below, one.0) in
      let before : new ≡ old + many = rises.1 less in
      let behind : new' ≡ new + 1 = one.1 less in
      omega (arith, before, behind),
)

-- the same of a number that goes on as counts do
pub just-next : (many old new new' : ℕ) → RisesJustBy many old new → RisesByOne new new' → RisesJustBy (next_count many) old new'
just-next many old new new' rises one = (
  omega (arith, rises.0, one.0),
  λ below.
      let less : new < greatest_count = omega (arith, below, one.0) in
      let before : new ≡ old + many = rises.1 less in
      let behind : new' ≡ new + 1 = one.1 less in
      let next : next_count many ≡ many + 1 = omega (arith, below, before, behind) in
      omega (arith, before, behind, next),
)

-- one that rose by one rose
pub one-rises : (old new : ℕ) → RisesByOne old new → Rises old new
one-rises old new one = (one.0, λ below. let is : new ≡ old + 1 = one.1 below in omega (arith, is))

-- one that rose by one where a test holds did not fall
pub counted-stays : (test : Bool) (old new : ℕ) → CountsWhere test old new → NeverFalls old new
counted-stays true old new rises = rises.0
counted-stays false old new same = omega (arith, same)

-- where it doesn't hold it stayed
counted-same : (test : Bool) (old new : ℕ) → test ≡ false → CountsWhere test old new → new ≡ old
counted-same test old new fails counts = subst (λ (b : Bool). CountsWhere b old new) fails counts

-- ## What a front counts

-- the words and the links are counted as they were
pub record CountsSame (old new : FrontCounts) : Type 0 where
  pub graceful : new.words.graceful ≡ old.words.graceful
  pub graceful_stop : new.words.graceful_stop ≡ old.words.graceful_stop
  pub stop : new.words.stop ≡ old.words.stop
  pub handed : new.handed ≡ old.handed

pub same-words : (old new : FrontCounts) → new.words ≡ old.words → new.handed ≡ old.handed → CountsSame old new
same-words old new words handed = record {
  graceful = ap (λ (w : GivenWords). w.graceful) words;
  graceful_stop = ap (λ (w : GivenWords). w.graceful_stop) words;
  stop = ap (λ (w : GivenWords). w.stop) words;
  handed = handed;
}

pub same-counts : (old new : FrontCounts) → new ≡ old → CountsSame old new
same-counts old new is = same-words old new (ap (λ (c : FrontCounts). c.words) is) (ap (λ (c : FrontCounts). c.handed) is)

-- by a wait
pub same-wait : (old new : FrontSeen) (until : Option ℕ) (quiet : Bool) (answer : Woke) (ready : List ℕ) → Waits old new until quiet answer ready
    → CountsSame old.counts new.counts
same-wait old new until quiet answer ready waits = same-words old.counts new.counts waits.words waits.handed

-- where no line was there
pub same-none : (old new : FrontSeen) → Commands old new None → CountsSame old.counts new.counts
same-none old new gave = record {
  graceful = gave.words.graceful;
  graceful_stop = gave.words.graceful_stop;
  stop = gave.words.stop;
  handed = gave.handed;
}

-- where one asks for nothing that the table has an event for
pub same-dropped : (old new : FrontSeen) (line : List ℕ) → IsIdle line → Commands old new (Some line) → CountsSame old.counts new.counts
same-dropped old new line idle gave = record {
  graceful = silent word.Graceful idle.graceful old.counts.words.graceful new.counts.words.graceful gave.words.graceful;
  graceful_stop = silent word.GracefulStop idle.ending old.counts.words.graceful_stop new.counts.words.graceful_stop gave.words.graceful_stop;
  stop = silent word.Stop idle.stop old.counts.words.stop new.counts.words.stop gave.words.stop;
  handed = gave.handed;
} where
  silent : (w : CommandWord) → line ≢ command_word w → (a b : ℕ) → CountsWhere (says_word w (Some line)) a b → b ≡ a
  silent w differs a b counts = counted-same (says_word w (Some line)) a b (other-word line (command_word w) differs) counts

-- where no link was handed out
pub same-unhanded : {L : Type 0} (link_seen : L → LinkSeen) (old new : FrontSeen) (answer : Arrival L)
    → (answer ≡ arrival.None) ⊎ (answer ≡ arrival.Failed) → Accepts link_seen old new answer → CountsSame old.counts new.counts
same-unhanded link_seen old new answer none accepts = same-words old.counts new.counts accepts.words (unhanded none) where
  unhanded : (answer ≡ arrival.None) ⊎ (answer ≡ arrival.Failed) → new.counts.handed ≡ old.counts.handed
  unhanded (inl none) = counted-same (is_handed answer) old.counts.handed new.counts.handed (ap (λ (a : Arrival _). is_handed a) none) accepts.handed
  unhanded (inr failed) = counted-same (is_handed answer) old.counts.handed new.counts.handed (ap (λ (a : Arrival _). is_handed a) failed) accepts.handed

-- ## From book to book

-- the book has as many orders and connections taken, and the server goes on as it did
pub record CountsAlike (a b : SeenBook) : Type 0 where
  pub orders : orders_in b ≡ orders_in a
  pub going : b.state.going ≡ a.state.going
  pub accepted : b.state.accepted ≡ a.state.accepted

pub alike-same : (a b : SeenBook) → b ≡ a → CountsAlike a b
alike-same a b is = record {
  orders = ap orders_in is;
  going = ap (λ (x : SeenBook). x.state.going) is;
  accepted = ap (λ (x : SeenBook). x.state.accepted) is;
}

pub alike-more : (a b c : SeenBook) → CountsAlike a b → CountsAlike b c → CountsAlike a c
alike-more a b c first second = record {
  orders = second.orders ∙ first.orders;
  going = second.going ∙ first.going;
  accepted = second.accepted ∙ first.accepted;
}

-- ended stays ended
ending-alike : (a b : SeenBook) → b.state.going ≡ a.state.going → is_serving b.state.going ≡ false → is_serving a.state.going ≡ false
ending-alike a b same ends = ap is_serving (sym same) ∙ ends

-- and a server that serves served
serving-alike : (a b : SeenBook) → b.state.going ≡ a.state.going → is_serving b.state.going ≡ true → is_serving a.state.going ≡ true
serving-alike a b same serves = ap is_serving (sym same) ∙ serves

-- where nothing of that changed it goes on so
pub counts-alike : (old new : FrontCounts) (a b : SeenBook) → CountsSame old new → CountsAlike a b → CountsOn 0 old new a b
counts-alike old new a b same alike first so = record {
  orders = just-as (orders_in a) (orders_in b) first.words.graceful old.words.graceful new.words.graceful so.orders same.graceful alike.orders;
  endings = subst (NeverFalls first.words.graceful_stop) (sym same.graceful_stop) so.endings;
  ending =
      λ ends. subst (Rises first.words.graceful_stop) (sym same.graceful_stop) (so.ending (ending-alike a b alike.going ends));
  unended =
      λ serves. just-as 0 0 first.words.graceful_stop old.words.graceful_stop new.words.graceful_stop (so.unended (serving-alike a b alike.going serves))
      same.graceful_stop refl;
  stops = just-as 0 0 first.words.stop old.words.stop new.words.stop so.stops same.stop refl;
  links = just-as a.state.accepted b.state.accepted first.handed old.handed new.handed so.links same.handed alike.accepted;
}

pub counts-same : (old : FrontCounts) (a : SeenBook) → CountsOn 0 old old a a
counts-same old a first so = so

pub counts-more : (owed : ℕ) (x y z : FrontCounts) (a b c : SeenBook) → CountsOn 0 x y a b → CountsOn owed y z b c → CountsOn owed x z a c
counts-more owed x y z a b c on more first so = more first (on first so)

pub counts-until : (x y z : FrontCounts) (a b c : SeenBook) → CountsOn 0 x y a b → CountsUntil y z b c → CountsUntil x z a c
counts-until x y z a b c on more first so = more first (on first so)

-- where nothing was left undone
pub counts-unbroken : (old new : FrontCounts) (a b : SeenBook) → CountsOn 0 old new a b → CountsUntil old new a b
counts-unbroken old new a b on first so =
    let more = on first so in
    record { orders = inl more.orders; ending = more.ending; unended = λ serves. inl (more.unended serves); stops = more.stops; links = inl more.links }

-- ## Lines

pub gave-word : (f f' : FrontSeen) (line : List ℕ) → Commands f f' (Some line) → (w : CommandWord) → line ≡ command_word w
    → Commands f f' (Some (command_word w))
gave-word f f' line gave w is = subst (λ (l : List ℕ). Commands f f' (Some l)) is gave

module _ (f f' : FrontSeen) (a b : SeenBook) (line : List ℕ) (gave : Commands f f' (Some line)) where
  -- one asked for a restart, and an order more was recorded
  pub counts-restarted : line ≡ command_word word.Graceful → orders_in b ≡ orders_in a + 1 → b.state.going ≡ a.state.going
      → b.state.accepted ≡ a.state.accepted → CountsOn 0 f.counts f'.counts a b
  counts-restarted is orders going accepted first so =
      let says = gave-word f f' line gave word.Graceful is in
      let stays : f'.counts.words.graceful_stop ≡ f.counts.words.graceful_stop = says.words.graceful_stop in
      record {
        orders =
            subst (λ (many : ℕ). RisesJustBy many first.words.graceful f'.counts.words.graceful) (sym orders)
            (just-more (orders_in a) first.words.graceful f.counts.words.graceful f'.counts.words.graceful so.orders says.words.graceful);
        endings = subst (NeverFalls first.words.graceful_stop) (sym stays) so.endings;
        ending =
            λ ends. subst (Rises first.words.graceful_stop) (sym stays) (so.ending (ending-alike a b going ends));
        unended =
            λ serves. just-as 0 0 first.words.graceful_stop f.counts.words.graceful_stop f'.counts.words.graceful_stop
            (so.unended (serving-alike a b going serves)) stays refl;
        stops = just-as 0 0 first.words.stop f.counts.words.stop f'.counts.words.stop so.stops says.words.stop refl;
        links = just-as a.state.accepted b.state.accepted first.handed f.counts.handed f'.counts.handed so.links gave.handed accepted;
      }

  -- and none could be
  pub counts-unrestarted : line ≡ command_word word.Graceful → b ≡ a → CountsUntil f.counts f'.counts a b
  counts-unrestarted is same first so =
      let says = gave-word f f' line gave word.Graceful is in
      let stays : f'.counts.words.graceful_stop ≡ f.counts.words.graceful_stop = says.words.graceful_stop in
      let alike = alike-same a b same in
      record {
        orders =
            inr (subst (λ (many : ℕ). RisesJustBy (many + 1) first.words.graceful f'.counts.words.graceful) (sym alike.orders)
            (just-more (orders_in a) first.words.graceful f.counts.words.graceful f'.counts.words.graceful so.orders says.words.graceful));
        ending =
            λ ends. subst (Rises first.words.graceful_stop) (sym stays) (so.ending (ending-alike a b alike.going ends));
        unended =
            λ serves. inl (just-as 0 0 first.words.graceful_stop f.counts.words.graceful_stop f'.counts.words.graceful_stop
            (so.unended (serving-alike a b alike.going serves)) stays refl);
        stops = just-as 0 0 first.words.stop f.counts.words.stop f'.counts.words.stop so.stops says.words.stop refl;
        links = inl (just-as a.state.accepted b.state.accepted first.handed f.counts.handed f'.counts.handed so.links gave.handed alike.accepted);
      }

  -- one asked for a graceful stop
  pub counts-ended : line ≡ command_word word.GracefulStop → orders_in b ≡ orders_in a → b.state.accepted ≡ a.state.accepted
      → is_serving b.state.going ≡ false → CountsOn 0 f.counts f'.counts a b
  counts-ended is orders accepted ended first so =
      let says = gave-word f f' line gave word.GracefulStop is in
      let one : RisesByOne f.counts.words.graceful_stop f'.counts.words.graceful_stop = says.words.graceful_stop in
      record {
        orders =
            just-as (orders_in a) (orders_in b) first.words.graceful f.counts.words.graceful f'.counts.words.graceful so.orders says.words.graceful orders;
        endings = omega (arith, so.endings, one.0);
        ending =
            λ ends. rises-behind first.words.graceful_stop f.counts.words.graceful_stop f'.counts.words.graceful_stop so.endings
            (one-rises f.counts.words.graceful_stop f'.counts.words.graceful_stop one);
        unended = λ serves. absurd (cc (ended, serves));
        stops = just-as 0 0 first.words.stop f.counts.words.stop f'.counts.words.stop so.stops says.words.stop refl;
        links = just-as a.state.accepted b.state.accepted first.handed f.counts.handed f'.counts.handed so.links gave.handed accepted;
      }

  -- and none could be begun
  pub counts-unended : line ≡ command_word word.GracefulStop → b ≡ a → is_serving a.state.going ≡ true → CountsUntil f.counts f'.counts a b
  counts-unended is same serves first so =
      let says = gave-word f f' line gave word.GracefulStop is in
      let one : RisesByOne f.counts.words.graceful_stop f'.counts.words.graceful_stop = says.words.graceful_stop in
      let alike = alike-same a b same in
      record {
        orders =
            inl (just-as (orders_in a) (orders_in b) first.words.graceful f.counts.words.graceful f'.counts.words.graceful so.orders says.words.graceful
            alike.orders);
        ending = λ ends. absurd (cc (ending-alike a b alike.going ends, serves));
        unended =
            λ here. inr (just-more 0 first.words.graceful_stop f.counts.words.graceful_stop f'.counts.words.graceful_stop (so.unended serves) one);
        stops = just-as 0 0 first.words.stop f.counts.words.stop f'.counts.words.stop so.stops says.words.stop refl;
        links = inl (just-as a.state.accepted b.state.accepted first.handed f.counts.handed f'.counts.handed so.links gave.handed alike.accepted);
      }

  -- one asked for a stop
  pub counts-stopped : line ≡ command_word word.Stop → b ≡ a → CountsOn 1 f.counts f'.counts a b
  counts-stopped is same first so =
      let says = gave-word f f' line gave word.Stop is in
      let stays : f'.counts.words.graceful_stop ≡ f.counts.words.graceful_stop = says.words.graceful_stop in
      let alike = alike-same a b same in
      record {
        orders =
            just-as (orders_in a) (orders_in b) first.words.graceful f.counts.words.graceful f'.counts.words.graceful so.orders says.words.graceful
            alike.orders;
        endings = subst (NeverFalls first.words.graceful_stop) (sym stays) so.endings;
        ending =
            λ ends. subst (Rises first.words.graceful_stop) (sym stays) (so.ending (ending-alike a b alike.going ends));
        unended =
            λ serves. just-as 0 0 first.words.graceful_stop f.counts.words.graceful_stop f'.counts.words.graceful_stop
            (so.unended (serving-alike a b alike.going serves)) stays refl;
        stops = just-more 0 first.words.stop f.counts.words.stop f'.counts.words.stop so.stops says.words.stop;
        links = just-as a.state.accepted b.state.accepted first.handed f.counts.handed f'.counts.handed so.links gave.handed alike.accepted;
      }

-- listening was stopped, or not
pub same-may : (f f' : FrontSeen) → MayHush f f' → CountsSame f.counts f'.counts
same-may f f' (inl same) = same-counts f.counts f'.counts (ap (λ (x : FrontSeen). x.counts) same)
same-may f f' (inr hushed) = same-counts f.counts f'.counts (ap (λ (x : FrontSeen). x.counts) hushed)

-- and no wait was made
pub may-wakes : (f f' : FrontSeen) → MayHush f f' → f'.counts.wakes ≡ f.counts.wakes
may-wakes f f' (inl same) = ap (λ (x : FrontSeen). x.counts.wakes) same
may-wakes f f' (inr hushed) = ap (λ (x : FrontSeen). x.counts.wakes) hushed

-- ## Links

module _ {L : Type 0} (link_seen : L → LinkSeen) (f f' : FrontSeen) (link : L) (accepts : Accepts link_seen f f' (arrival.Some link)) (a b : SeenBook) (new : FrontCounts) (same : new ≡ f'.counts) where
  by-one : RisesByOne f.counts.handed new.handed
  by-one = subst (λ (c : FrontCounts). RisesByOne f.counts.handed c.handed) (sym same) accepts.handed

  words-same : new.words ≡ f.counts.words
  words-same = ap (λ (c : FrontCounts). c.words) same ∙ accepts.words

  -- one was handed out, and its connection taken
  pub counts-taken : orders_in b ≡ orders_in a → b.state.going ≡ a.state.going → b.state.accepted ≡ next_count a.state.accepted
      → CountsOn 0 f.counts new a b
  counts-taken orders going accepted first so = record {
    orders =
        just-as (orders_in a) (orders_in b) first.words.graceful f.counts.words.graceful new.words.graceful so.orders
        (ap (λ (w : GivenWords). w.graceful) words-same) orders;
    endings = subst (λ (w : GivenWords). NeverFalls first.words.graceful_stop w.graceful_stop) (sym words-same) so.endings;
    ending = λ ends. subst (λ (w : GivenWords). Rises first.words.graceful_stop w.graceful_stop) (sym words-same) (so.ending (ending-alike a b going ends));
    unended =
        λ serves. just-as 0 0 first.words.graceful_stop f.counts.words.graceful_stop new.words.graceful_stop (so.unended (serving-alike a b going serves))
        (ap (λ (w : GivenWords). w.graceful_stop) words-same) refl;
    stops = just-as 0 0 first.words.stop f.counts.words.stop new.words.stop so.stops (ap (λ (w : GivenWords). w.stop) words-same) refl;
    links =
        subst (λ (many : ℕ). RisesJustBy many first.handed new.handed) (sym accepted)
        (just-next a.state.accepted first.handed f.counts.handed new.handed so.links by-one);
  }

  -- or it could not be taken
  pub counts-lacking : orders_in b ≡ orders_in a → b.state.going ≡ a.state.going → LacksLink a.state b.state → CountsUntil f.counts new a b
  counts-lacking orders going lacks first so = record {
    orders =
        inl (just-as (orders_in a) (orders_in b) first.words.graceful f.counts.words.graceful new.words.graceful so.orders
        (ap (λ (w : GivenWords). w.graceful) words-same) orders);
    ending = λ ends. subst (λ (w : GivenWords). Rises first.words.graceful_stop w.graceful_stop) (sym words-same) (so.ending (ending-alike a b going ends));
    unended =
        λ serves. inl (just-as 0 0 first.words.graceful_stop f.counts.words.graceful_stop new.words.graceful_stop
        (so.unended (serving-alike a b going serves)) (ap (λ (w : GivenWords). w.graceful_stop) words-same) refl);
    stops = just-as 0 0 first.words.stop f.counts.words.stop new.words.stop so.stops (ap (λ (w : GivenWords). w.stop) words-same) refl;
    links =
        elim lacks [
          | inl taken ↦ inl (subst (λ (many : ℕ). RisesJustBy many first.handed new.handed) (sym taken)
              (just-next a.state.accepted first.handed f.counts.handed new.handed so.links by-one))
          | inr same ↦ inr (subst (λ (many : ℕ). RisesJustBy (many + 1) first.handed new.handed) (sym same)
              (just-more a.state.accepted first.handed f.counts.handed new.handed so.links by-one))
        ];
  }

-- ## The parts of turns

-- where nothing was ordered
pub alike-orderless : (a b : SeenBook) → ActsOrderless a b → b.state.going ≡ a.state.going → b.state.accepted ≡ a.state.accepted → CountsAlike a b
alike-orderless a b acts going accepted =
    record { orders = orders-kept 0 acts.events None a b acts.acts acts.none; going = going; accepted = accepted }

-- so the front counted on where it counted nothing
pub counts-orderless : (old new : FrontCounts) (a b : SeenBook) → new ≡ old → ActsOrderless a b → b.state.going ≡ a.state.going
    → b.state.accepted ≡ a.state.accepted → CountsOn 0 old new a b
counts-orderless old new a b same acts going accepted =
    counts-alike old new a b (same-counts old new same) (alike-orderless a b acts going accepted)

-- ## The clock

-- a moment that stayed, or passed, is not behind the greater one
pub moment-stays : (s s' : State) (to : ℕ) → s'.moment ≡ s.moment → s'.moment ≤ max s.moment to
moment-stays s s' to same = omega (arith, same)

pub moment-passed : (s s' : State) (to : ℕ) → s'.moment ≡ max s.moment to → s'.moment ≤ max s.moment to
moment-passed s s' to passed = omega (arith, passed)
