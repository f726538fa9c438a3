-- What a line of the site leaves of a draft.
use Rattle.std.proofs.Common.{◌≡◌, ℕ, Bool, true, false, List, [], ◌∷◌, drop, bytes_eq, refl, sym, ap, ◌∙◌}
use Rattle.mpm_base.specs.declared.store.Content.{Content}
use Rattle.mpm_base.specs.declared.store.File.{File}
use Rattle.stand_ins.specs.Files.{with_file, without_file}
use Rattle.script_front.specs.DraftInside.{IsDraft}
use Rattle.script_front.specs.Editions.{conf_file, conf_name, is_conf_name}

-- the configuration changes
pub draft-changed : (files : List File) (conf conf' : List ℕ) (changed : Bool) → IsDraft files conf changed → IsDraft files conf' true
draft-changed files conf conf' changed all = record { kept = all.kept; is = all.is; same = λ e. absurd (cc e) }

-- another file is set, or removed
set-behind : (name : List ℕ) (content : Content) (kept : List ℕ) (others : List File) → is_conf_name name ≡ false
    → with_file name content (conf_file kept ∷ others) ≡ conf_file kept ∷ with_file name content others
set-behind name content kept others other = let differs : bytes_eq conf_name name ≡ false = other in rw differs refl

unset-behind : (name kept : List ℕ) (others : List File) → is_conf_name name ≡ false
    → without_file name (conf_file kept ∷ others) ≡ conf_file kept ∷ without_file name others
unset-behind name kept others other = let differs : bytes_eq conf_name name ≡ false = other in rw differs refl

-- files that the configuration's stands before
still-draft : (files files' others : List File) (conf : List ℕ) (changed : Bool) (all : IsDraft files conf changed) → files' ≡ conf_file all.kept ∷ others → IsDraft files' conf changed
still-draft files files' others conf changed all e = record {
  kept = all.kept;
  is = e ∙ ap (λ fs. conf_file all.kept ∷ drop 1 fs) (sym e);
  same = all.same;
}

pub draft-set : (files : List File) (conf : List ℕ) (changed : Bool) (name : List ℕ) (content : Content) → IsDraft files conf changed → is_conf_name name ≡ false
    → IsDraft (with_file name content files) conf changed
draft-set files conf changed name content all other =
    still-draft files (with_file name content files) (with_file name content (drop 1 files)) conf changed all
    (ap (with_file name content) all.is ∙ set-behind name content all.kept (drop 1 files) other)

pub others-set : (files : List File) (conf : List ℕ) (changed : Bool) (name : List ℕ) (content : Content) → IsDraft files conf changed → is_conf_name name ≡ false
    → drop 1 (with_file name content files) ≡ with_file name content (drop 1 files)
others-set files conf changed name content all other = ap (drop 1) (ap (with_file name content) all.is ∙ set-behind name content all.kept (drop 1 files) other)

pub draft-unset : (files : List File) (conf : List ℕ) (changed : Bool) (name : List ℕ) → IsDraft files conf changed → is_conf_name name ≡ false
    → IsDraft (without_file name files) conf changed
draft-unset files conf changed name all other =
    still-draft files (without_file name files) (without_file name (drop 1 files)) conf changed all
    (ap (without_file name) all.is ∙ unset-behind name all.kept (drop 1 files) other)

pub others-unset : (files : List File) (conf : List ℕ) (changed : Bool) (name : List ℕ) → IsDraft files conf changed → is_conf_name name ≡ false
    → drop 1 (without_file name files) ≡ without_file name (drop 1 files)
others-unset files conf changed name all other = ap (drop 1) (ap (without_file name) all.is ∙ unset-behind name all.kept (drop 1 files) other)

-- the configuration's file is set, or has the configuration
pub conf-set : (files : List File) (conf : List ℕ) (changed : Bool) → IsDraft files conf changed → with_file conf_name (record { bytes = conf; second = 0 }) files ≡ conf_file conf ∷ drop 1 files
conf-set files conf changed all = ap (with_file conf_name (record { bytes = conf; second = 0 })) all.is

pub conf-stays : (files : List File) (conf : List ℕ) (changed : Bool) → IsDraft files conf changed → changed ≡ false → files ≡ conf_file conf ∷ drop 1 files
conf-stays files conf changed all unchanged = all.is ∙ ap (λ c. conf_file c ∷ drop 1 files) (all.same unchanged)

-- then it is settled
pub draft-settled : (files others : List File) (conf : List ℕ) → files ≡ conf_file conf ∷ others → IsDraft files conf false
draft-settled files others conf e = record { kept = conf; is = e ∙ ap (λ fs. conf_file conf ∷ drop 1 fs) (sym e); same = λ _. refl }
