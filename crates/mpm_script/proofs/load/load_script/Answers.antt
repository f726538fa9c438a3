use Rattle.std.proofs.Common.{◌++◌, map, sym, ap, subst, ◌∙◌}
use Rattle.std.specs.List.{flat_map, range_with_len}
use Rattle.mpm_script.specs.FileNames.{HaveTextNames}
use Rattle.mpm_script.specs.Load.{load_connection, load_file}
use Rattle.mpm_script.proofs.load.load_script.Goals as goal

pub returns-clause-names : goal.returns-clause-names
returns-clause-names c =
    let files = c.in_ok-add_files.ensures ∙ ap (λ lines. lines ++ map load_file (range_with_len 0 10)) c.make-script.ensures in
    let lines = c.in_ok-add_connections.ensures ∙ ap (λ lines. lines ++ flat_map load_connection (range_with_len 0 c.args.n)) files in
    subst HaveTextNames (sym lines) (c.load_names_are_texts.ensures c.args.n)
