-- What lines, a watch and the signals of a wait leave of the clients.
use Rattle.std.proofs.Common.{◌≡◌, ℕ, zero, suc, ◌+◌, ◌-◌, ◌<◌, ◌≤◌, inl, inr, Bool, true, false, not, ◌&&◌, if◌then◌else◌, bytes_eq, List, [], ◌∷◌, ◌++◌, length, get_or, set, take, drop, map, Option, None, Some, ap, subst, sym, refl, ◌∙◌, append_assoc, append-nil, take-append-drop, arith}
use Rattle.std.proofs.lemmas.Grind.{drop_more_same}
use Rattle.std.proofs.lemmas.List.{at_drop_more, drop-set-lt, drop_all, drop_more, length_push, take_all, take_more_set}
use Rattle.std.specs.List.{slice_get}
use Rattle.std.proofs.lemmas.Option.{get_or_from_slice_get, slice_get-map, slice_get_read}
use Rattle.mpm_base.specs.declared.conn.ConnName.{ConnName}
use Rattle.mpm_base.specs.declared.script_line.ClientAct.{ClientAct}
use Rattle.mpm_base.specs.declared.script_line.ClientAct.TheVariants as act
use Rattle.mpm_base.specs.declared.script_line.ScriptLine.{ScriptLine}
use Rattle.mpm_base.specs.declared.script_line.ScriptLine.TheVariants as line
use Rattle.mpm_script.specs.NameChains.{IsLastBelow}
use Rattle.script_front.specs.PlayedPartsInside.{is_of_client}
use Rattle.script_front.specs.Signals.{Gives, LooksAt, SeenClient, after_act, client_after_line, client_after_lines, after_watch_of, done, full, given, gone, idle, new_client, without_signal, watched_client}
use Rattle.script_front.proofs.WalkLemmas.{Alike, Walked, alike-maps, map-itself, walked-at, walked-end, walked-length, walked-start, walked-step}

-- ## Each client keeps its name

abbrev pub names : List SeenClient → List (List ℕ)
names clients = map (λ client. client.name) clients

pub names-new : (ns : List (List ℕ)) → names (map new_client ns) ≡ ns
names-new [] = refl
names-new (n ∷ ns) = ap (λ rest. n ∷ rest) (names-new ns)

either-name : (b : Bool) (x y : SeenClient) → x.name ≡ y.name → (if b then x else y).name ≡ y.name
either-name true x y same = same
either-name false x y same = refl

act-name : (act : ClientAct) (client : SeenClient) → (after_act act client).name ≡ client.name
act-name (act.Send bytes) client = either-name client.ended client _ refl
act-name act.End client = either-name client.ended client _ refl
act-name act.Drop client = refl
act-name (act.Room room) client = refl
act-name (act.Fail which number) client = refl

line-name : (line : ScriptLine) (client : SeenClient) → (client_after_line line client).name ≡ client.name
line-name (line.At m) client = refl
line-name (line.Conn name) client = refl
line-name (line.Client name act) client = either-name (bytes_eq name client.name) (after_act act client) client (act-name act client)
line-name (line.Command word) client = refl
line-name (line.Site site) client = refl

lines-name : (lines : List ScriptLine) (client : SeenClient) → (client_after_lines lines client).name ≡ client.name
lines-name [] client = refl
lines-name (line ∷ lines) client = lines-name lines (client_after_line line client) ∙ line-name line client

pub names-lines : (lines : List ScriptLine) (clients : List SeenClient) → names (map (client_after_lines lines) clients) ≡ names clients
names-lines lines [] = refl
names-lines lines (client ∷ clients) = rw (lines-name lines client) (ap (λ rest. client.name ∷ rest) (names-lines lines clients))

pub names-watch : (number : ℕ) (clients : List SeenClient) → names (after_watch_of number clients) ≡ names clients
names-watch number [] = refl
names-watch zero (client ∷ clients) = refl
names-watch (suc number) (client ∷ clients) = ap (λ rest. client.name ∷ rest) (names-watch number clients)

looks-name : {client found : SeenClient} → LooksAt client found → found.name ≡ client.name
looks-name looks = ap (λ (client : SeenClient). client.name) looks.found_is

pub names-gives : {room : ℕ} {clients clients' : List SeenClient} {ns : List (Option ConnName)} {slots : List ℕ} → Gives room clients ns clients' slots → names clients' ≡ names clients
names-gives full = refl
names-gives done = refl
names-gives (idle {client = client} looks still gives) = rw (looks-name looks) (ap (λ rest. client.name ∷ rest) (names-gives gives))
names-gives (given {client = client} looks due unclosed gives) = rw (looks-name looks) (ap (λ rest. client.name ∷ rest) (names-gives gives))
names-gives (gone {client = client} looks due shut gives) = rw (looks-name looks) (ap (λ rest. client.name ∷ rest) (names-gives gives))

-- no more slots are given than there is room for
pub gives-few : {room : ℕ} {clients clients' : List SeenClient} {ns : List (Option ConnName)} {slots : List ℕ} → Gives room clients ns clients' slots → length slots ≤ room
gives-few full = omega arith
gives-few done = omega arith
gives-few (idle looks still gives) = gives-few gives
gives-few (given looks due unclosed gives) = omega (arith, gives-few gives)
gives-few (gone looks due shut gives) = gives-few gives

-- ## Lines and a watch

-- one line more
pub lines_more : (lines : List ScriptLine) (i : ℕ) (line : ScriptLine) (client : SeenClient) → i < length lines
    → client_after_lines (drop i lines) client ≡ client_after_lines (drop (i + 1) lines) (client_after_line (get_or lines i line) client)
lines_more lines i line client h = at_drop_more (λ lines. client_after_lines lines client) lines i line h

-- the same of all clients
pub all_more : (lines : List ScriptLine) (i : ℕ) (line : ScriptLine) (clients : List SeenClient) → i < length lines → line ≡ get_or lines i line
    → map (client_after_lines (drop (i + 1) lines)) (map (client_after_line line) clients) ≡ map (client_after_lines (drop i lines)) clients
all_more lines i line [] h is = refl
all_more lines i line (client ∷ clients) h is =
    let one : client_after_lines (drop (i + 1) lines) (client_after_line line client) ≡ client_after_lines (drop i lines) client =
    ap (λ l. client_after_lines (drop (i + 1) lines) (client_after_line l client)) is ∙ sym (lines_more lines i line client h) in
    rw (one, all_more lines i line clients h is)

-- a line that acts on no client
silence : (said : ScriptLine) (client : SeenClient) → is_of_client said ≡ false → client_after_line said client ≡ client
silence (line.At m) client none = refl
silence (line.Conn name) client none = refl
silence (line.Client name act) client none = absurd (cc)
silence (line.Command word) client none = refl
silence (line.Site site) client none = refl

pub all_silent : (said : ScriptLine) (clients : List SeenClient) → is_of_client said ≡ false → map (client_after_line said) clients ≡ clients
all_silent said [] none = refl
all_silent said (client ∷ clients) none = rw (silence said client none) (ap (λ rest. client ∷ rest) (all_silent said clients none))

-- no line is left
pub all_end : (lines : List ScriptLine) (i : ℕ) (clients : List SeenClient) → length lines ≤ i → map (client_after_lines (drop i lines)) clients ≡ clients
all_end lines i [] h = refl
all_end lines i (client ∷ clients) h = rw (all_end lines i clients h, drop_all i lines h) refl

-- each keeps its name
pub names-line : (line : ScriptLine) (clients : List SeenClient) → names (map (client_after_line line) clients) ≡ names clients
names-line line [] = refl
names-line line (client ∷ clients) = rw (line-name line client) (ap (λ rest. client.name ∷ rest) (names-line line clients))

-- a client was changed as a watch of its link does
pub watch-set : (clients : List SeenClient) (number : ℕ) (x : SeenClient) → number < length clients → x ≡ get_or clients number x
    → set clients number (watched_client x) ≡ after_watch_of number clients
watch-set [] number x h is = absurd (omega (arith, h))
watch-set (client ∷ clients) zero x h is = rw is refl
watch-set (client ∷ clients) (suc number) x h is = ap (λ rest. client ∷ rest) (watch-set clients number x (omega (arith, h)) is)

-- there is none of that number
pub watch-past : (clients : List SeenClient) (number : ℕ) → length clients ≤ number → after_watch_of number clients ≡ clients
watch-past [] number h = refl
watch-past (client ∷ clients) zero h = absurd (omega (arith, h))
watch-past (client ∷ clients) (suc number) h = ap (λ rest. client ∷ rest) (watch-past clients number (omega (arith, h)))

-- ## The signals of a wait, client by client

-- up to a place the clients are done: whatever comes behind it, all is given as it should be
pub record GivesOn (clients now : List SeenClient) (ns : List (Option ConnName)) (i : ℕ) (ready : List ℕ) : Type 0 where
  pub rest : drop i now ≡ drop i clients
  pub goes : (later : List SeenClient) (slots : List ℕ) → Gives (256 - length ready) (drop i clients) (drop i ns) later slots
      → Gives 256 clients ns (take i now ++ later) (ready ++ slots)

pub gives-start : (clients : List SeenClient) (ns : List (Option ConnName)) (ready : List ℕ) → ready ≡ [] → GivesOn clients clients ns 0 ready
gives-start clients ns ready none = rw none (record { rest = refl; goes = λ later slots gives. gives })

-- no room is left
pub gives-full : (clients now : List SeenClient) (ns : List (Option ConnName)) (i : ℕ) (ready : List ℕ) → GivesOn clients now ns i ready → length ready ≡ 256
    → Gives 256 clients ns now ready
gives-full clients now ns i ready on long =
    let none : 256 - length ready ≡ 0 = omega (arith, long) in
    let gives : Gives 256 clients ns (take i now ++ drop i clients) (ready ++ []) = on.goes (drop i clients) [] (rw none full) in
    let all : take i now ++ drop i clients ≡ now = rw (← on.rest) (take-append-drop i now) in
    rw (all, append-nil ready) at gives

-- no client is left
pub gives-done : (clients now : List SeenClient) (ns : List (Option ConnName)) (i : ℕ) (ready : List ℕ) → GivesOn clients now ns i ready
    → length now ≤ i → length clients ≤ i → length ns ≤ i → Gives 256 clients ns now ready
gives-done clients now ns i ready on l m n =
    let gives : Gives 256 clients ns (take i now ++ []) (ready ++ []) = on.goes [] [] (rw (drop_all i clients m, drop_all i ns n) done) in
    let all : take i now ++ [] ≡ now = append-nil (take i now) ∙ take_all i now l in
    rw (all, append-nil ready) at gives

-- what becomes of one client, where these come behind it
abbrev pub GivesOne : List SeenClient → List (Option ConnName) → List ℕ → SeenClient → Option ConnName → SeenClient → List ℕ → Type 0
GivesOne clients ns ready x n x' added =
    (later : List SeenClient) (slots : List ℕ) → Gives (256 - length (ready ++ added)) clients ns later slots
    → Gives (256 - length ready) (x ∷ clients) (n ∷ ns) (x' ∷ later) (added ++ slots)

pub gives-step : (clients now : List SeenClient) (ns : List (Option ConnName)) (i : ℕ) (ready added : List ℕ) (x x' : SeenClient) (n : Option ConnName)
    → GivesOn clients now ns i ready → i < length now → i < length ns → x ≡ get_or now i x → get_or ns i None ≡ n
    → GivesOne (drop (i + 1) clients) (drop (i + 1) ns) ready x n x' added → GivesOn clients (set now i x') ns (i + 1) (ready ++ added)
gives-step clients now ns i ready added x x' n on l k is named one =
    let after = drop_more_same now clients i on.rest in
    let here : drop i clients ≡ x ∷ drop (i + 1) clients = sym on.rest ∙ drop_more now i x l ∙ rw (← is, after) refl in
    let there : drop i ns ≡ n ∷ drop (i + 1) ns = drop_more ns i None k ∙ rw named refl in
    record {
      rest = drop-set-lt (i + 1) now i x' (omega arith) ∙ after;
      goes = λ later slots gives.
          rw (take_more_set now i x' l, append_assoc (take i now) (x' ∷ []) later, append_assoc ready added slots)
          (on.goes (x' ∷ later) (added ++ slots) (rw (here, there) (one later slots gives)));
    }

-- its link isn't watched
pub gives-unwatched : (clients now : List SeenClient) (ns : List (Option ConnName)) (i : ℕ) (ready : List ℕ) (x found : SeenClient)
    → GivesOn clients now ns i ready → i < length now → i < length ns → x ≡ get_or now i x → get_or ns i None ≡ None → LooksAt x found
    → GivesOn clients (set now i found) ns (i + 1) ready
gives-unwatched clients now ns i ready x found on l k is none looks =
    let one : GivesOne (drop (i + 1) clients) (drop (i + 1) ns) ready x None found [] = λ later slots gives. idle looks (inl refl) (rw (append-nil ready) at gives) in
    let step : GivesOn clients (set now i found) ns (i + 1) (ready ++ []) = gives-step clients now ns i ready [] x found None on l k is none one in
    rw (append-nil ready) at step

-- its signal is given
pub gives-given : (clients now : List SeenClient) (ns : List (Option ConnName)) (i : ℕ) (ready : List ℕ) (x found : SeenClient) (name : ConnName)
    → GivesOn clients now ns i ready → i < length now → i < length ns → x ≡ get_or now i x → get_or ns i None ≡ Some name → length ready < 256
    → LooksAt x found → true ≡ (found.due && not found.closed) → GivesOn clients (set now i (without_signal found)) ns (i + 1) (ready ++ name.slot ∷ [])
gives-given clients now ns i ready x found name on l k is named few looks signals =
    gives-step clients now ns i ready (name.slot ∷ []) x (without_signal found) (Some name) on l k is named (go found.due found.closed refl refl)
  where
    go : (due shut : Bool) → found.due ≡ due → found.closed ≡ shut → GivesOne (drop (i + 1) clients) (drop (i + 1) ns) ready x (Some name) (without_signal found) (name.slot ∷ [])
    go true false due unclosed =
        let room : 256 - length ready ≡ suc (256 - length (ready ++ name.slot ∷ [])) = omega (arith, length_push ready name.slot, few) in
        λ later slots gives. rw room (given looks due unclosed gives)
    go true true due shut = absurd (let no : true ≡ false = signals ∙ rw (due, shut) refl in cc no)
    go false shut due s = absurd (let no : true ≡ false = signals ∙ rw due refl in cc no)

silent : (x : SeenClient) → x.due ≡ false → without_signal x ≡ x
silent x still = ap (λ due. let y : SeenClient = record x { due = due } in y) (sym still)

-- it is watched and its signal isn't given: none is due, or its link was closed
pub gives-none : (clients now : List SeenClient) (ns : List (Option ConnName)) (i : ℕ) (ready : List ℕ) (x found : SeenClient) (name : ConnName)
    → GivesOn clients now ns i ready → i < length now → i < length ns → x ≡ get_or now i x → get_or ns i None ≡ Some name → length ready < 256
    → LooksAt x found → false ≡ (found.due && not found.closed) → GivesOn clients (set now i (without_signal found)) ns (i + 1) ready
gives-none clients now ns i ready x found name on l k is named few looks silence =
    let step : GivesOn clients (set now i (without_signal found)) ns (i + 1) (ready ++ []) =
    gives-step clients now ns i ready [] x (without_signal found) (Some name) on l k is named (go found.due found.closed refl refl) in
    rw (append-nil ready) at step
  where
    go : (due shut : Bool) → found.due ≡ due → found.closed ≡ shut → GivesOne (drop (i + 1) clients) (drop (i + 1) ns) ready x (Some name) (without_signal found) []
    go false shut still s = λ later slots gives. rw (silent found still) (idle looks (inr still) (rw (append-nil ready) at gives))
    go true true due shut =
        let room : 256 - length ready ≡ suc (255 - length ready) = omega (arith, few) in
        λ later slots gives. rw room (gone looks due shut (rw (append-nil ready, room) at gives))
    go true false due unclosed = absurd (let no : false ≡ true = silence ∙ rw (due, unclosed) refl in cc no)

-- what a list holds once it was lent whole
pub lent-back : {X : Type 0} (n : ℕ) (new old : List X) → n ≡ length old → length new ≡ length old → take n (new ++ drop (length new) old) ≡ new
lent-back n new old size same = rw (drop_all (length new) old (omega (arith, same)), append-nil new) (take_all n new (omega (arith, size, same)))

-- ## A walk over the clients of one name

module _ (clients : List SeenClient) (all : List (List ℕ)) (named : names clients ≡ all) (name : List ℕ) (did : ClientAct) where
  abbrev acted : List SeenClient
  acted = map (client_after_line (line.Client name did)) clients

  acted-alike : Alike name all clients acted
  acted-alike =
      subst (λ (ns : List (List ℕ)). Alike name ns clients acted) named
      (subst (λ (cs : List SeenClient). Alike name (names clients) cs acted) (map-itself clients)
      (alike-maps (λ (client : SeenClient). client.name) (λ client. client) (client_after_line (line.Client name did)) name (λ client other. rw other refl) clients))

  pub acts-start : (next : Option ℕ) → IsLastBelow name (length all) all next → Walked name all clients acted clients next
  acts-start next last = walked-start name all clients acted acted-alike next last

  pub acts-step : (now : List SeenClient) (place : ℕ) (x : SeenClient) (next : Option ℕ) → Walked name all clients acted now (Some place) → x ≡ get_or now place x
      → IsLastBelow (get_or all place []) place all next → Walked name all clients acted (set now place (after_act did x)) next
  acts-step now place x next walked is last =
      let each : length clients ≡ length all = acted-alike.old_each in
      let size : length now ≡ length all = walked-length name all clients acted acted-alike now (Some place) walked in
      let item : slice_get now place ≡ Some x = slice_get_read now (length now) place x refl (omega (arith, size, walked.at.0)) is in
      let old : slice_get clients place ≡ Some x = sym (walked-at name all clients acted acted-alike now place walked) ∙ item in
      let own : get_or all place [] ≡ x.name =
      ap (λ (ns : List (List ℕ)). get_or ns place []) (sym named) ∙ get_or_from_slice_get (names clients) place x.name [] (slice_get-map (λ (client : SeenClient). client.name) clients place ∙ rw old refl) in
      let hits : bytes_eq name x.name ≡ true = subst (λ (n : List ℕ). bytes_eq name n ≡ true) own walked.at.1 in
      let there : slice_get acted place ≡ Some (after_act did x) = slice_get-map (client_after_line (line.Client name did)) clients place ∙ rw (old, hits) refl in
      walked-step name all clients acted acted-alike now place (after_act did x) next walked there last

  -- the place is one of the clients'
  pub acts-size : (now : List SeenClient) (place : ℕ) → Walked name all clients acted now (Some place) → (place < length clients) × (place < length now)
  acts-size now place walked =
      let each : length clients ≡ length all = acted-alike.old_each in
      let size : length now ≡ length all = walked-length name all clients acted acted-alike now (Some place) walked in
      (omega (arith, each, walked.at.0), omega (arith, size, walked.at.0))

  pub acts-end : (now : List SeenClient) → Walked name all clients acted now None → now ≡ acted
  acts-end now walked = walked-end name all clients acted acted-alike now walked
