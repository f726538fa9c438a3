-- Pieces that are written one behind the other, and the type and the time of a file.
use Rattle.std.proofs.Common.{◌≡◌, ℕ, Bool, true, false, cond, not, List, ◌++◌, Option, Some, None, refl, sym, ap, subst, ◌∙◌, append_assoc}
use Rattle.std.specs.Option.{option_map}
use Rattle.std.specs.Prelude.{codes, min}
use Rattle.std.proofs.lemmas.Bool.{false≢true}
use Rattle.std.proofs.lemmas.Option.{same_Some, none-some}
use Rattle.httpdate.specs.Date.{date_text, unix_secs}
use Rattle.httpdate.specs.declared.date.HttpDate.{HttpDate}
use Rattle.mpm_base.specs.declared.store.File.{File}
use Rattle.media_types.specs.MediaType.{type_of_name}
use Rattle.file_table.specs.Site.{SeenSite}
use Rattle.file_table.specs.declared.marks.Marks.{Marks}
use Rattle.http_core.specs.Reply.{head_line_of, told_second, type_of_file}
use Rattle.http_core.specs.ReplyInside.{IsTimeAdded}

-- one more piece behind those that were written
pub one_more : (start pieces piece text text' : List ℕ) → text ≡ start ++ pieces → text' ≡ text ++ piece → text' ≡ start ++ (pieces ++ piece)
one_more start pieces piece text text' e e' = e' ∙ ap (λ t. t ++ piece) e ∙ append_assoc start pieces piece

-- the type that a file of the site has
pub type_there : (site : SeenSite) (file : Option File) (text : List ℕ) → option_map (λ (f : File). type_of_name site.types f.name) file ≡ Some text
    → text ≡ type_of_file site file
type_there site None text e = absurd (none-some text e)
type_there site (Some f) text e = sym (same_Some (type_of_name site.types f.name) text e)

-- the line of a file's last change was added, where times count
pub time_added : (m : Marks) (now second : ℕ) (file : Option File) (date : HttpDate) (old new : List ℕ) → not m.times ≡ false
    → option_map (λ (f : File). f.second) file ≡ Some second → unix_secs date ≡ min second now
    → new ≡ old ++ head_line_of (codes "Last-Modified: " ++ date_text date) → IsTimeAdded (told_second m now file) old new
time_added m now second None date old new times is dated added = absurd (none-some second is)
time_added m now second (Some f) date old new times is dated added =
    subst (λ told. IsTimeAdded told old new) (sym (ap (λ b. cond b (Some (min f.second now)) None) (shown m.times times)))
    (record {
      line = head_line_of (codes "Last-Modified: " ++ date_text date);
      is_line = (date, dated ∙ ap (λ n. min n now) (sym (same_Some f.second second is)), refl);
      added = added;
    })
  where
    shown : (b : Bool) → not b ≡ false → b ≡ true
    shown true h = refl
    shown false h = absurd (false≢true (sym h))
