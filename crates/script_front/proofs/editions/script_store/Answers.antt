use Rattle.std.proofs.Common.{◌≡◌, ◌∷◌, ◌++◌, take, drop, ap, ◌∙◌}
use Rattle.std.specs.List.{prefix_len}
use Rattle.std.proofs.lemmas.List.Elements.{All-drop, All-take}
use Rattle.std.proofs.lemmas.Result.{IfOk-weaker}
use Rattle.mpm_script.specs.FileNames.{HasTextName, HaveTextNames}
use Rattle.stand_ins.specs.History.{told_past}
use Rattle.stand_ins.specs.PlainStore.{SeenStore, no_store_counts}
use Rattle.script_front.specs.DraftInside.{SeenDraft}
use Rattle.script_front.specs.Editions.{edition_of, editions_behind, editions_of, is_site}
use Rattle.script_front.proofs.EditionLemmas.{editions-are}
use Rattle.script_front.proofs.editions.script_store.Goals as goal

pub take_opening-requires-clause-names : goal.take_opening-requires-clause-names
take_opening-requires-clause-names c =
    let all : HaveTextNames c.lines-lines.result.now = rw c.lines-lines.ensures c.requires in
    rw c.split_at.ensures.front (All-take HasTextName c.opening_len.result c.lines-lines.result.now all)

pub take_lines-requires-clause-names : goal.take_lines-requires-clause-names
take_lines-requires-clause-names c =
    let all : HaveTextNames c.lines-lines.result.now = rw c.lines-lines.ensures c.requires in
    rw c.split_at.ensures.back (All-drop HasTextName c.opening_len.result c.lines-lines.result.now all)

pub returns : goal.returns
returns c =
    let lines = c.lines-lines.result.now in
    let opening = c.split_at.result.0.now in
    let behind = c.split_at.result.1.now in
    let past = c.into_history.result.past in
    let front : opening ≡ take (prefix_len is_site lines) lines = c.split_at.ensures.front ∙ ap (λ n. take n lines) c.opening_len.ensures.is in
    let back : behind ≡ drop (prefix_len is_site lines) lines = c.split_at.ensures.back ∙ ap (λ n. drop n lines) c.opening_len.ensures.is in
    let all : past ≡ edition_of opening ∷ editions_behind opening behind =
    c.into_history.ensures ∙ c.in_ok-take_lines.ensures ∙ ap (λ (d : SeenDraft). d.past ++ editions_behind opening behind) c.in_ok-take_opening.ensures in
    let told : told_past past ≡ editions_of c.args.script.now = editions-are lines opening behind past front back all ∙ ap editions_of c.lines-lines.ensures in
    IfOk-weaker c.of_history.result (λ store. store ≡ record { told = told_past past; counts = no_store_counts }) _
    (λ store e. e ∙ ap (λ t. let s : SeenStore = record { told = t; counts = no_store_counts } in s) told) c.of_history.ensures
