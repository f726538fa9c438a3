-- The editions of a script, line by line.
use Rattle.std.proofs.Common.{◌≡◌, ℕ, suc, ◌+◌, ◌<◌, ◌≤◌, Bool, true, false, cond, List, [], ◌∷◌, ◌++◌, length, get_or, take, drop, refl, sym, ap, ◌∙◌, append_assoc, add-one, arith}
use Rattle.std.specs.Prelude.{IsSome}
use Rattle.std.specs.List.{All, AllByRecursion, fold, prefix_len}
use Rattle.std.proofs.Math.Seq.{drop-cons}
use Rattle.std.proofs.lemmas.List.{append-nil, take_all, take_more}
use Rattle.std.proofs.lemmas.List.Concat.{flat_map-append}
use Rattle.std.proofs.lemmas.List.Elements.{All-from_recursion}
use Rattle.std.proofs.lemmas.List.Sums.{fold-append}
use Rattle.mpm_base.specs.Store.{StoreTold, bytes_of}
use Rattle.mpm_base.specs.declared.store.File.{File}
use Rattle.mpm_base.specs.declared.script_line.ScriptLine.{ScriptLine}
use Rattle.mpm_base.specs.declared.script_line.ScriptLine.TheVariants as line
use Rattle.mpm_base.specs.declared.script_line.SiteLine.{SiteLine}
use Rattle.stand_ins.specs.History.{told_past}
use Rattle.script_front.specs.DraftInside.{SeenDraft}
use Rattle.script_front.specs.Editions.{Filed, after_line, conf_after, conf_file, conf_name, conf_of, edition_of, editions_behind, editions_of, filed_by, is_graceful, is_site, opening_lines, site_in, site_lines}

-- ## A further line

fold-site : {X : Type 0} (step : X → SiteLine → X) (start : X) (before : List ScriptLine) (line : ScriptLine)
    → fold step start (site_lines (before ++ line ∷ [])) ≡ fold step (fold step start (site_lines before)) (site_in line)
fold-site step start before line =
    ap (fold step start) (flat_map-append site_in before (line ∷ []) ∙ ap (λ xs. site_lines before ++ xs) (append-nil (site_in line)))
    ∙ fold-append step start (site_lines before) (site_in line)

lines-more : (opening lines : List ScriptLine) (i : ℕ) (line : ScriptLine) → i < length lines → line ≡ get_or lines i line
    → opening ++ take (i + 1) lines ≡ (opening ++ take i lines) ++ line ∷ []
lines-more opening lines i line l e =
    ap (λ xs. opening ++ xs) (take_more lines i line l ∙ ap (λ x. take i lines ++ x ∷ []) (sym e)) ∙ sym (append_assoc opening (take i lines) (line ∷ []))

-- what it leaves of the configuration and of the other files
pub conf-more : (opening lines : List ScriptLine) (i : ℕ) (line : ScriptLine) → i < length lines → line ≡ get_or lines i line
    → conf_of (opening ++ take (i + 1) lines) ≡ fold conf_after (conf_of (opening ++ take i lines)) (site_in line)
conf-more opening lines i line l e = ap conf_of (lines-more opening lines i line l e) ∙ fold-site conf_after [] (opening ++ take i lines) line

pub filed-more : (opening lines : List ScriptLine) (i : ℕ) (line : ScriptLine) → i < length lines → line ≡ get_or lines i line
    → filed_by (opening ++ take (i + 1) lines) ≡ after_line (filed_by (opening ++ take i lines)) line
filed-more opening lines i line l e =
    let start : Filed = record { moment = 0; files = [] } in
    ap filed_by (lines-more opening lines i line l e) ∙ fold-append after_line start (opening ++ take i lines) (line ∷ [])

-- the edition that may end with it
one-edition : (graceful : Bool) (past rest : List (List File)) (edition : List File)
    → cond graceful (past ++ edition ∷ []) past ++ rest ≡ past ++ cond graceful (edition ∷ rest) rest
one-edition true past rest edition = append_assoc past (edition ∷ []) rest
one-edition false past rest edition = refl

pub editions-more : (opening lines : List ScriptLine) (i : ℕ) (line : ScriptLine) (past past' : List (List File)) → i < length lines → line ≡ get_or lines i line
    → past' ≡ cond (is_graceful line) (past ++ edition_of (opening ++ take i lines) ∷ []) past
    → past' ++ editions_behind (opening ++ take (i + 1) lines) (drop (i + 1) lines) ≡ past ++ editions_behind (opening ++ take i lines) (drop i lines)
editions-more opening lines i line past past' l e is =
    let before = opening ++ take i lines in
    let rest = drop (i + 1) lines in
    let behind = editions_behind (before ++ line ∷ []) rest in
    let more : drop i lines ≡ line ∷ rest = drop-cons lines i line l ∙ ap (λ x. x ∷ drop (suc i) lines) (sym e) ∙ ap (λ n. line ∷ drop n lines) (sym (add-one i)) in
    ap (λ b. past' ++ editions_behind b rest) (lines-more opening lines i line l e)
    ∙ ap (λ xs. xs ++ behind) is
    ∙ one-edition (is_graceful line) past behind (edition_of before)
    ∙ ap (λ xs. past ++ editions_behind before xs) (sym more)

-- a line by which an edition ends is none of the site, and no moment
pub graceful-stays : (f : Filed) (line : ScriptLine) → is_graceful line ≡ true → f ≡ after_line f line
graceful-stays f (line.At m) is = absurd (cc is)
graceful-stays f (line.Conn name) is = absurd (cc is)
graceful-stays f (line.Client name act) is = absurd (cc is)
graceful-stays f (line.Command word) is = refl
graceful-stays f (line.Site site) is = absurd (cc is)

pub graceful-no_site : (line : ScriptLine) → is_graceful line ≡ true → site_in line ≡ []
graceful-no_site (line.At m) is = absurd (cc is)
graceful-no_site (line.Conn name) is = absurd (cc is)
graceful-no_site (line.Client name act) is = absurd (cc is)
graceful-no_site (line.Command word) is = refl
graceful-no_site (line.Site site) is = absurd (cc is)

-- ## The lines of the opening

-- all happened, and their edition ended
pub opening-ended : (lines : List ScriptLine) (i : ℕ) (draft : SeenDraft) → length lines ≤ i
    → draft ≡ record { past = []; conf = conf_of (take i lines); filed = filed_by (take i lines) }
    → record draft { past = draft.past ++ (conf_file draft.conf ∷ draft.filed.files) ∷ [] } ≡ record { past = edition_of lines ∷ []; conf = conf_of lines; filed = filed_by lines }
opening-ended lines i draft past is =
    ap (λ (d : SeenDraft). let ended : SeenDraft = record d { past = d.past ++ (conf_file d.conf ∷ d.filed.files) ∷ [] } in ended) is
    ∙ ap (λ xs. let ended : SeenDraft = record { past = edition_of xs ∷ []; conf = conf_of xs; filed = filed_by xs } in ended) (take_all i lines past)

opening-from : (before lines : List ScriptLine)
    → editions_behind before lines ≡ editions_behind (before ++ take (prefix_len is_site lines) lines) (drop (prefix_len is_site lines) lines)
opening-from before [] = refl
opening-from before (line.At m ∷ lines) = ap (λ b. editions_behind b (line.At m ∷ lines)) (sym (append-nil before))
opening-from before (line.Conn name ∷ lines) = ap (λ b. editions_behind b (line.Conn name ∷ lines)) (sym (append-nil before))
opening-from before (line.Client name act ∷ lines) = ap (λ b. editions_behind b (line.Client name act ∷ lines)) (sym (append-nil before))
opening-from before (line.Command word ∷ lines) = ap (λ b. editions_behind b (line.Command word ∷ lines)) (sym (append-nil before))
opening-from before (line.Site site ∷ lines) =
    let n = prefix_len is_site lines in
    let one : suc n ≡ 1 + n = omega arith in
    opening-from (before ++ line.Site site ∷ []) lines
    ∙ ap (λ b. editions_behind b (drop n lines)) (append_assoc before (line.Site site ∷ []) (take n lines))
    ∙ ap (λ k. editions_behind (before ++ take k (line.Site site ∷ lines)) (drop k (line.Site site ∷ lines))) one

-- the editions that the store goes through are those that end behind the opening
pub editions-are : (lines opening behind : List ScriptLine) (past : List (List File))
    → opening ≡ take (prefix_len is_site lines) lines → behind ≡ drop (prefix_len is_site lines) lines → past ≡ edition_of opening ∷ editions_behind opening behind
    → told_past past ≡ editions_of lines
editions-are lines opening behind past o b p =
    ap told_past (p ∙ ap (λ xs. edition_of xs ∷ editions_behind xs behind) o ∙ ap (λ xs. edition_of (opening_lines lines) ∷ editions_behind (opening_lines lines) xs) b)
    ∙ ap (λ later. let told : StoreTold = record { files = edition_of (opening_lines lines); later = later } in told) (sym (opening-from [] lines))

-- ## The configuration's file

-- each edition has the configuration's file
abbrev HasConf : List File → Type 0
HasConf files = IsSome (bytes_of conf_name files)

have_conf : (before lines : List ScriptLine) → AllByRecursion HasConf (editions_behind before lines)
have_conf before [] = tt
have_conf before (line ∷ lines) = by_line (is_graceful line) (have_conf (before ++ line ∷ []) lines)
  where
    by_line : (graceful : Bool) → AllByRecursion HasConf (editions_behind (before ++ line ∷ []) lines)
        → AllByRecursion HasConf (cond graceful (edition_of before ∷ editions_behind (before ++ line ∷ []) lines) (editions_behind (before ++ line ∷ []) lines))
    by_line true rest = (refl, rest)
    by_line false rest = rest

pub later_have_conf : (lines : List ScriptLine) → All (λ (files : List File). IsSome (bytes_of conf_name files)) (editions_behind [] lines)
later_have_conf lines = All-from_recursion HasConf (editions_behind [] lines) (have_conf [] lines)
