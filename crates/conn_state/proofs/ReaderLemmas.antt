-- What a reader of requests takes from its link by steps.
use Rattle.std.proofs.Common.{◌≡◌, ℕ, ◌+◌, ◌<◌, ◌≤◌, inl, inr, Bool, true, false, ◌||◌, List, [], ◌∷◌, ◌++◌, take, drop, length, Option, Some, None, option_map, is_some, IfSome, if◌then◌else◌, refl, sym, ap, subst, ◌∙◌, arith, append_assoc, length-append}
use Rattle.std.proofs.lemmas.Bool.{false≢true}
use Rattle.std.proofs.lemmas.List.{append-nil, length-take-le}
use Rattle.mpm_base.specs.Count.{RisesWhere, RisesExactlyWhere}
use Rattle.mpm_base.specs.Link.{LinkTold, LinkSeen, Reads, GivesNext, with_received, after_read}
use Rattle.mpm_base.specs.declared.link.Got.TheVariants as got
use Rattle.http_read.specs.declared.request.Limits.{Limits}
use Rattle.http_read.specs.Requests.{WaitsForRequest}
use Rattle.conn_state.specs.declared.stage.Stage.{Stage}
use Rattle.conn_state.specs.declared.stage.Stage.TheVariants as stage
use Rattle.conn_state.specs.declared.steps.StepAnswer.{StepAnswer}
use Rattle.conn_state.specs.declared.steps.StepAnswer.TheVariants as step
use Rattle.conn_state.specs.declared.reader.RequestAnswer.{RequestAnswer}
use Rattle.conn_state.specs.declared.reader.RequestAnswer.TheVariants as answer
use Rattle.conn_state.specs.Items.{Item, BeginsItem}
use Rattle.conn_state.specs.Replies.{Expects}
use Rattle.conn_state.specs.Rest.{StandsAs, is_awaited, is_in_head, is_in_body, is_whole, is_refused}
use Rattle.conn_state.specs.Steps.{Steps, PassesHead, StaysInPart, WaitsIn, is_told}
use Rattle.conn_state.specs.Reader.{SeenReader, StandsFor, AwaitsMore, AsksInNeed, IsAnswerable, item_kept, finds_waiting, finds_more, finds_end, finds_failure, AnswerFinds, KeepsAll, ReadsNext}
use Rattle.conn_state.specs.Turns.{LeavesItem}
use Rattle.conn_state.specs.ReaderInside.{HasCome, HasComeSome, EndsReading}
use Rattle.conn_state.proofs.ApartLemmas.{waits-for_request}
use Rattle.conn_state.proofs.BoundLemmas.{waits-few}
use Rattle.conn_state.proofs.FollowLemmas.{some-is}
use Rattle.conn_state.proofs.ItemLemmas.{KeepsHeads, KeepsSpelled, KeepsRefused, refused-more}
use Rattle.conn_state.proofs.LinkLemmas.{rises-after, told-received_none, gives-none, told-joined, gives-joined, gives-taken}
use Rattle.conn_state.proofs.RestLemmas.{expects-more}

-- ## Several reads and steps

-- before the first one
abbrev pub come-none : (link : LinkSeen) (r : SeenReader) → HasCome link link r r
come-none link r = record {
  same_limits = refl;
  got = [];
  told_is = told-received_none link.told;
  gives = gives-none link.told;
  stands = λ rest h. subst (StandsFor r) (sym (append-nil rest)) h;
  same_client = refl;
  faults = omega arith;
  late_reads = refl;
  late_writes = refl;
  ends = refl;
}

-- one that tells nothing
pub or-nothing : (b told : Bool) → told ≡ false → (b || told) ≡ b
or-nothing true told is = refl
or-nothing false told is = is

module _ (link link' : LinkSeen) (old mid new : SeenReader) (given : StepAnswer) (come : HasCome link link' old mid) (same : new.limits ≡ mid.limits)
    (steps : Steps mid.limits mid.unread new.unread mid.stage new.stage given) where
  -- what is kept after a step stands for all that came
  pub step-stands : (rest : List ℕ) → StandsFor old rest → StandsFor new (rest ++ come.got)
  step-stands rest h =
      subst (λ l. StandsAs l new.unread new.stage (rest ++ come.got)) (sym same) (steps.stands (rest ++ come.got) (come.stands rest h))

  -- a further step, which found no client that waits
  abbrev pub come-step : is_told given ≡ false → HasCome link link' old new
  come-step nothing = record {
    same_limits = same ∙ come.same_limits;
    got = come.got;
    told_is = come.told_is;
    gives = come.gives;
    stands = step-stands;
    same_client = steps.told_once ∙ or-nothing (is_awaited mid.stage) (is_told given) nothing ∙ come.same_client;
    faults = come.faults;
    late_reads = come.late_reads;
    late_writes = come.late_writes;
    ends = come.ends;
  }

-- a step found that more has to come
pub step-waits : (link link' : LinkSeen) (old mid new : SeenReader) (come : HasCome link link' old mid) → new.limits ≡ mid.limits
    → Steps mid.limits mid.unread new.unread mid.stage new.stage step.Wants → (rest : List ℕ) → StandsFor old rest → AwaitsMore new (rest ++ come.got)
step-waits link link' old mid new come same steps rest h = record {
  waits = subst (λ l. WaitsIn l new.unread new.stage (rest ++ come.got)) (sym same) (steps.wants (rest ++ come.got) (come.stands rest h));
  short = steps.keeps (rest ++ come.got) (come.stands rest h);
}

-- the next request is whole
whole-kept : (s : Stage) → is_whole s ≡ true → is_some (item_kept s) ≡ true
whole-kept (stage.Head reader) is = absurd (false≢true is)
whole-kept (stage.Body request reader) is = absurd (false≢true is)
whole-kept (stage.Whole request) is = refl
whole-kept (stage.Refused code expected) is = absurd (false≢true is)

-- the next request is refused
refused-kept : (s : Stage) → is_refused s ≡ true → is_some (item_kept s) ≡ true
refused-kept (stage.Head reader) is = absurd (false≢true is)
refused-kept (stage.Body request reader) is = absurd (false≢true is)
refused-kept (stage.Whole request) is = absurd (false≢true is)
refused-kept (stage.Refused code expected) is = refl

module _ (link link' : LinkSeen) (old mid new : SeenReader) (come : HasCome link link' old mid) (same : new.limits ≡ mid.limits)
    (asks : (rest : List ℕ) → StandsFor old rest → AsksInNeed old rest come.got) where
  -- a step found the next item
  found-item : (given : StepAnswer) → Steps mid.limits mid.unread new.unread mid.stage new.stage given → is_told given ≡ false → is_some (item_kept new.stage) ≡ true
      → ReadsNext link link' old new answer.Item
  found-item given steps nothing kept =
      let further = come-step link link' old mid new given come same steps nothing in
      record {
        same_limits = further.same_limits;
        got = further.got;
        told_is = further.told_is;
        gives = further.gives;
        none_comes = λ e. absurd (cc);
        asks = asks;
        stands = further.stands;
        finds = λ rest h. kept;
        told_once = further.same_client ∙ sym (or-nothing (is_awaited old.stage) false refl);
        not_twice = λ e. absurd (false≢true e);
        faults = further.faults;
        late_reads = further.late_reads;
        late_writes = further.late_writes;
        ends = further.ends;
      }

  -- it is whole
  pub found-whole : Steps mid.limits mid.unread new.unread mid.stage new.stage step.Whole → ReadsNext link link' old new answer.Item
  found-whole steps = found-item step.Whole steps refl (whole-kept new.stage steps.finds.whole)

  -- it is refused
  pub found-refused : Steps mid.limits mid.unread new.unread mid.stage new.stage step.Refused → ReadsNext link link' old new answer.Item
  found-refused steps = found-item step.Refused steps refl (refused-kept new.stage steps.finds)

  -- a step found a client that waits
  pub found-awaited : Steps mid.limits mid.unread new.unread mid.stage new.stage step.Awaited → ReadsNext link link' old new answer.Awaited
  found-awaited steps = record {
    same_limits = same ∙ come.same_limits;
    got = come.got;
    told_is = come.told_is;
    gives = come.gives;
    none_comes = λ e. absurd (cc);
    asks = asks;
    stands = step-stands link link' old mid new step.Awaited come same steps;
    finds = λ rest h. steps.finds.awaited_is;
    told_once = steps.told_once ∙ ap (λ b. b || true) come.same_client;
    not_twice = λ e. sym come.same_client ∙ steps.not_twice refl;
    faults = come.faults;
    late_reads = come.late_reads;
    late_writes = come.late_writes;
    ends = come.ends;
  }

  -- memory lacked for a step
  pub found-no_memory : Steps mid.limits mid.unread new.unread mid.stage new.stage step.NoMemory → ReadsNext link link' old new answer.NoMemory
  found-no_memory steps =
      let further = come-step link link' old mid new step.NoMemory come same steps refl in
      record {
        same_limits = further.same_limits;
        got = further.got;
        told_is = further.told_is;
        gives = further.gives;
        none_comes = λ e. absurd (cc);
        asks = asks;
        stands = λ rest h. tt;
        finds = λ rest h. tt;
        told_once = further.same_client ∙ sym (or-nothing (is_awaited old.stage) false refl);
        not_twice = λ e. absurd (false≢true e);
        faults = further.faults;
        late_reads = further.late_reads;
        late_writes = further.late_writes;
        ends = further.ends;
      }

-- items don't wait for more
abbrev pub ItemsApart : Type 0
ItemsApart = (limits : Limits) (bytes : List ℕ) (item : Item) (size : ℕ) → BeginsItem limits bytes item size → ¬ (WaitsForRequest limits bytes)

-- a client that waits is found before more has to come
abbrev pub ClientsFound : Type 0
ClientsFound = (limits : Limits) (unread : List ℕ) (s : Stage) (rest : List ℕ) → WaitsIn limits unread s rest → Expects limits rest → is_awaited s ≡ true

-- where more has to come nothing that is there can be answered
pub none-there : ItemsApart → ClientsFound → (old new : SeenReader) (rest : List ℕ) → new.limits ≡ old.limits → is_awaited new.stage ≡ is_awaited old.stage
    → AwaitsMore new rest → IsAnswerable old rest → ⊥
none-there apart found old new rest same client waits (inl (item, size, begins)) =
    apart new.limits rest item size (subst (λ l. BeginsItem l rest item size) (sym same) begins)
    (waits-for_request new.limits new.unread new.stage rest waits.waits)
none-there apart found old new rest same client waits (inr (expects, unfound)) =
    false≢true (sym unfound ∙ sym client ∙ found new.limits new.unread new.stage rest waits.waits (subst (λ l. Expects l rest) (sym same) expects))

-- a read where more had to come
pub asks-in_need : ItemsApart → ClientsFound → (link link' : LinkSeen) (old mid : SeenReader) (come : HasCome link link' old mid) (more : List ℕ)
    → ((rest : List ℕ) → StandsFor old rest → AwaitsMore mid (rest ++ come.got)) → length more ≤ 4096
    → (rest : List ℕ) → StandsFor old rest → AsksInNeed old rest (come.got ++ more)
asks-in_need apart found link link' old mid come more waits few rest h =
    inr (record {
      before = come.got;
      last = more;
      got_is = refl;
      few = few;
      none_there = λ a. none-there apart found old mid (rest ++ come.got) come.same_limits come.same_client (waits rest h) a;
    })

module _ (link link1 link2 : LinkSeen) (old mid new : SeenReader) (first : HasCome link link1 old mid) where
  -- a further read
  abbrev pub come-more : HasCome link1 link2 mid new → HasCome link link2 old new
  come-more later = record {
    same_limits = later.same_limits ∙ first.same_limits;
    got = first.got ++ later.got;
    told_is = told-joined link.told link1.told link2.told first.got later.got first.told_is later.told_is;
    gives = gives-joined link.told link1.told link2.told first.got later.got first.told_is first.gives later.gives;
    stands = λ rest h. subst (StandsFor new) (append_assoc rest first.got later.got) (later.stands (rest ++ first.got) (first.stands rest h));
    same_client = later.same_client ∙ first.same_client;
    faults = omega (arith, first.faults, later.faults);
    late_reads = later.late_reads ∙ first.late_reads;
    late_writes = later.late_writes ∙ first.late_writes;
    ends = later.ends ∙ first.ends;
  }

  -- the last read
  pub reads-last : ItemsApart → ClientsFound → (given : RequestAnswer) → ((rest : List ℕ) → StandsFor old rest → AwaitsMore mid (rest ++ first.got))
      → EndsReading link1 link2 mid new given → ReadsNext link link2 old new given
  reads-last apart found given waits later = record {
    same_limits = later.same_limits ∙ first.same_limits;
    got = first.got ++ later.got;
    told_is = told-joined link.told link1.told link2.told first.got later.got first.told_is later.told_is;
    gives = gives-joined link.told link1.told link2.told first.got later.got first.told_is first.gives later.gives;
    none_comes = later.none_comes;
    asks = asks-in_need apart found link link1 old mid first later.got waits later.few;
    stands = λ rest h. subst (KeepsAll given new) (append_assoc rest first.got later.got) (later.stands (rest ++ first.got) (first.stands rest h));
    finds = λ rest h. subst (AnswerFinds given new) (append_assoc rest first.got later.got) (later.finds (rest ++ first.got) (waits rest h));
    told_once = later.same_client ∙ first.same_client ∙ sym (or-nothing (is_awaited old.stage) (finds_waiting given) later.none_waits);
    not_twice = λ e. absurd (false≢true (sym later.none_waits ∙ e));
    faults = rises-after (finds_failure given) link.counts.faults link1.counts.faults link2.counts.faults first.faults later.faults;
    late_reads = subst (λ n. RisesExactlyWhere (finds_more given) n link2.counts.late_reads) first.late_reads later.late_reads;
    late_writes = later.late_writes ∙ first.late_writes;
    ends = subst (λ n. RisesExactlyWhere (finds_end given) n link2.counts.ends) first.ends later.ends;
  }

-- ## One read

-- what is kept stands for what comes behind it too
abbrev pub KeepsKept : Type 0
KeepsKept = (limits : Limits) (unread more : List ℕ) (s : Stage) (rest : List ℕ) → StandsAs limits unread s rest → StandsAs limits (unread ++ more) s (rest ++ more)

-- bytes came
pub come-piece : KeepsKept → (link link' : LinkSeen) (old new : SeenReader) (count : ℕ) (buffer more : List ℕ) → Reads link link' (got.Got count) buffer
    → more ≡ take count buffer → 0 < length buffer → length buffer ≤ 4096 → new ≡ record old { unread = old.unread ++ more } → HasComeSome link link' old new
come-piece goes_on link link' old new count buffer more reads is some few left =
    let size : length more ≡ count = ap length is ∙ length-take-le count buffer reads.fits.0 in
    record {
      come = record {
        same_limits = ap (λ (r : SeenReader). r.limits) left;
        got = more;
        told_is = reads.told_is ∙ ap (λ n. option_map (with_received n) link.told) (sym size);
        gives = subst (λ xs. IfSome link.told (λ t. xs ≡ take (length xs) t.coming)) (sym is) (gives-taken link.told count buffer reads.fits.0 reads.gives);
        stands = λ rest h. subst (λ r. StandsFor r (rest ++ more)) (sym left) (goes_on old.limits old.unread more old.stage rest h);
        same_client = ap (λ (r : SeenReader). is_awaited r.stage) left;
        faults = reads.faults;
        late_reads = reads.late_reads;
        late_writes = reads.late_writes;
        ends = reads.ends;
      };
      some = omega (arith, size, reads.fits.1 some);
      few = omega (arith, size, reads.fits.0, few);
      kept = ap (λ (r : SeenReader). r.unread) left;
      same_stage = ap (λ (r : SeenReader). r.stage) left;
    }

-- memory lacked for the bytes that came
pub ends-lost : (link link' : LinkSeen) (old new : SeenReader) (count : ℕ) (buffer : List ℕ) → Reads link link' (got.Got count) buffer → length buffer ≤ 4096
    → new ≡ old → EndsReading link link' old new answer.NoMemory
ends-lost link link' old new count buffer reads few same = record {
  same_limits = ap (λ (r : SeenReader). r.limits) same;
  got = take count buffer;
  told_is = reads.told_is ∙ ap (λ n. option_map (with_received n) link.told) (sym (length-take-le count buffer reads.fits.0));
  gives = gives-taken link.told count buffer reads.fits.0 reads.gives;
  none_comes = λ e. absurd (cc);
  stands = λ rest h. tt;
  finds = λ rest h. tt;
  same_client = ap (λ (r : SeenReader). is_awaited r.stage) same;
  none_waits = refl;
  few = omega (arith, few, reads.fits.0, length-take-le count buffer reads.fits.0);
  faults = reads.faults;
  late_reads = reads.late_reads;
  late_writes = reads.late_writes;
  ends = reads.ends;
}

-- no byte came behind those that are there
nil-behind : (P : List ℕ → Type 0) (rest : List ℕ) → P rest → P (rest ++ [])
nil-behind P rest h = subst P (sym (append-nil rest)) h

-- a read that gave no byte, and ended the turn
ends-empty : (link link' : LinkSeen) (r : SeenReader) (given : RequestAnswer) → link'.told ≡ link.told
    → (given ≡ answer.Gone → IfSome link'.told (λ t. t.coming ≡ [])) → finds_waiting given ≡ false
    → ((rest : List ℕ) → StandsFor r rest → KeepsAll given r rest) → ((rest : List ℕ) → AwaitsMore r rest → AnswerFinds given r rest)
    → RisesWhere (finds_failure given) link.counts.faults link'.counts.faults → RisesExactlyWhere (finds_more given) link.counts.late_reads link'.counts.late_reads
    → link'.counts.late_writes ≡ link.counts.late_writes → RisesExactlyWhere (finds_end given) link.counts.ends link'.counts.ends
    → EndsReading link link' r r given
ends-empty link link' r given same none_comes nothing stands finds faults late_reads late_writes ends = record {
  same_limits = refl;
  got = [];
  told_is = same ∙ told-received_none link.told;
  gives = gives-none link.told;
  none_comes = none_comes;
  stands = λ rest h. nil-behind (KeepsAll given r) rest (stands rest h);
  finds = λ rest h. nil-behind (AnswerFinds given r) rest (finds rest h);
  same_client = refl;
  none_waits = nothing;
  few = omega arith;
  faults = faults;
  late_reads = late_reads;
  late_writes = late_writes;
  ends = ends;
}

-- a link that tells the same
same-told : (f : LinkTold → LinkTold) → ((t : LinkTold) → f t ≡ t) → (told : Option LinkTold) → option_map f told ≡ told
same-told f same None = refl
same-told f same (Some t) = ap Some (same t)

-- nothing comes where a read found the end
end-comes : (link : LinkSeen) (buffer : List ℕ) (told' : Option LinkTold) → told' ≡ link.told → IfSome link.told (GivesNext got.End buffer)
    → IfSome told' (λ t. t.coming ≡ [])
end-comes link buffer told' same gives = subst (λ o. IfSome o (λ t. t.coming ≡ [])) (sym same) gives

module _ (link link' : LinkSeen) (r : SeenReader) (buffer : List ℕ) where
  -- the link has nothing more at that moment
  pub ends-late : Reads link link' got.NotReady buffer → EndsReading link link' r r answer.More
  ends-late reads =
      let same = reads.told_is ∙ same-told (after_read got.NotReady) (λ t. refl) link.told in
      ends-empty link link' r answer.More same (λ e. absurd (cc)) refl (λ rest h. h) (λ rest h. h) reads.faults reads.late_reads reads.late_writes reads.ends

  -- the client sends no more
  pub ends-gone : Reads link link' got.End buffer → EndsReading link link' r r answer.Gone
  ends-gone reads =
      let same = reads.told_is ∙ same-told (after_read got.End) (λ t. refl) link.told in
      ends-empty link link' r answer.Gone same (λ e. end-comes link buffer link'.told same reads.gives) refl (λ rest h. h) (λ rest h. h)
      reads.faults reads.late_reads reads.late_writes reads.ends

  -- the call failed
  pub ends-failed : Reads link link' got.Failed buffer → EndsReading link link' r r answer.LinkFailed
  ends-failed reads =
      let same = reads.told_is ∙ same-told (after_read got.Failed) (λ t. refl) link.told in
      ends-empty link link' r answer.LinkFailed same (λ e. absurd (cc)) refl (λ rest h. h) (λ rest h. h)
      reads.faults reads.late_reads reads.late_writes reads.ends

-- ## What was there before

-- an item at the front of the bytes stays there
pub item-more : KeepsSpelled → KeepsRefused → (limits : Limits) (rest more : List ℕ) (item : Item) (size : ℕ) → BeginsItem limits rest item size
    → BeginsItem limits (rest ++ more) item size
item-more spelled refused limits rest more (inl request) size b = (spelled limits rest more ((request, size) ∷ []) (drop size rest) (b, refl)).0
item-more spelled refused limits rest more (inr refusal) size b = (refused-more refused limits rest more refusal b.0, b.1)

-- what can be answered still can, whatever comes behind it
answerable-more : KeepsHeads → KeepsSpelled → KeepsRefused → (r : SeenReader) (rest more : List ℕ) → IsAnswerable r rest → IsAnswerable r (rest ++ more)
answerable-more heads spelled refused r rest more (inl (item, size, begins)) = inl (item, size, item-more spelled refused r.limits rest more item size begins)
answerable-more heads spelled refused r rest more (inr (expects, unfound)) = inr (expects-more heads r.limits rest more expects, unfound)

-- where there is something to answer no byte is taken
pub none-taken : KeepsHeads → KeepsSpelled → KeepsRefused → (r : SeenReader) (rest got : List ℕ) → IsAnswerable r rest → AsksInNeed r rest got → got ≡ []
none-taken heads spelled refused r rest got there (inl none) = none
none-taken heads spelled refused r rest got there (inr came) =
    absurd (came.none_there (answerable-more heads spelled refused r rest came.before there))

-- where more has to come there was no item before, and no client that waits and wasn't found
pub none-answerable : KeepsHeads → KeepsSpelled → KeepsRefused → ItemsApart → ClientsFound → (old new : SeenReader) (rest more : List ℕ) → new.limits ≡ old.limits → is_awaited new.stage ≡ is_awaited old.stage
    → AwaitsMore new (rest ++ more) → IsAnswerable old rest → ⊥
none-answerable heads spelled refused apart found old new rest more same client waits (inl (item, size, begins)) =
    none-there apart found old new (rest ++ more) same client waits
    (inl (item, size, item-more spelled refused old.limits rest more item size begins))
none-answerable heads spelled refused apart found old new rest more same client waits (inr (expects, unfound)) =
    none-there apart found old new (rest ++ more) same client waits (inr (expects-more heads old.limits rest more expects, unfound))

-- where more has to come the bytes are few
pub come-few : (new : SeenReader) (rest more : List ℕ) → AwaitsMore new (rest ++ more) → length more ≤ 1102733746998
come-few new rest more waits = omega (arith, waits-few new.limits new.unread new.stage (rest ++ more) waits.waits, length-append rest more)

-- ## The count of the turns of the loop

-- the head of the next request was read
abbrev pub behind_head : Stage → ℕ
behind_head s = if is_in_head s then 0 else 1

-- before the first turn of the loop
pub counts-none : (s : Stage) → 0 ≤ length {A = ℕ} [] + behind_head s
counts-none s = omega arith

-- no byte came yet
pub few-none : length {A = ℕ} [] ≤ 1102733751094
few-none = omega arith

-- a step that accepts the head
pub counts-head : (n got : ℕ) (s s' : Stage) → n ≤ got + behind_head s → PassesHead false s s' → n + 1 ≤ got + behind_head s'
counts-head n got s s' each passes =
    let before : behind_head s ≡ 0 = ap (λ b. if b then 0 else 1) passes.in_head in
    let after : behind_head s' ≡ 1 = ap (λ b. if b then 0 else 1) (not-in_head s' passes.in_body) in
    omega (arith, each, before, after)
  where
    -- behind the head
    not-in_head : (t : Stage) → is_in_body t ≡ true → is_in_head t ≡ false
    not-in_head (stage.Head reader) is = absurd (false≢true is)
    not-in_head (stage.Body request reader) is = refl
    not-in_head (stage.Whole request) is = refl
    not-in_head (stage.Refused code expected) is = refl

-- a read behind a step
pub counts-piece : (n got more : ℕ) (s s' s2 : Stage) → n ≤ got + behind_head s → StaysInPart s s' → s2 ≡ s' → 0 < more → n + 1 ≤ (got + more) + behind_head s2
counts-piece n got more s s' s2 each stays same some =
    let before : behind_head s2 ≡ behind_head s = ap behind_head same ∙ ap (λ b. if b then 0 else 1) stays.same_head in
    omega (arith, each, before, some)

-- ## Behind an item

-- behind a refusal all is kept
pub leave-kept : (r : SeenReader) (s : Stage) → r.stage ≡ s → is_whole s ≡ false → (item : Item) (rest : List ℕ) → item_kept r.stage ≡ Some item → StandsFor r rest
    → LeavesItem item r r rest
leave-kept r (stage.Head reader) is none item rest kept h = absurd (let e : None ≡ Some item = sym (ap item_kept is) ∙ kept in cc)
leave-kept r (stage.Body request reader) is none item rest kept h = absurd (let e : None ≡ Some item = sym (ap item_kept is) ∙ kept in cc)
leave-kept r (stage.Whole request) is none item rest kept h = absurd (false≢true (sym none))
leave-kept r (stage.Refused code expected) is none item rest kept h =
    let same : inr (record { code = code; expected = expected }) ≡ item =
    some-is (inr (record { code = code; expected = expected })) item (sym (ap item_kept is) ∙ kept) in
    subst (λ i. LeavesItem i r r rest) same
    (record { size = 0; begins = (subst (λ s. StandsAs r.limits r.unread s rest) is h, refl); stands = h })
