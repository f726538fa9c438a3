-- What is added to a head.
use Rattle.std.specs.Prelude.{◌≡◌, ℕ, List, ◌++◌, Option}
use Rattle.mpm_base.specs.declared.note.Note.{Note}
use Rattle.mpm_base.specs.declared.store.File.{File}
use Rattle.file_table.specs.Site.{SeenSite}
use Rattle.http_core.specs.Reply.{IsTimeLine, file_lines, file_of, head_of, told_second}
use Rattle.http_core.specs.declared.plan.Plan.{Plan}
use Rattle.http_core.specs.declared.plan.Served.{Served}

-- the line of that second was added, where one is told
pub record IsTimeAdded (told : Option ℕ) (old new : List ℕ) : Type 0 where
  pub line : List ℕ
  pub is_line : IsTimeLine told line
  pub added : new ≡ old ++ line

-- the lines were added that speak of the file that is served
pub record AreMarksAdded (site : SeenSite) (served : Served) (file : Option File) (now : ℕ) (old new : List ℕ) : Type 0 where
  pub changed : List ℕ
  pub is_changed : IsTimeLine (told_second site.marks now file) changed
  pub added : new ≡ old ++ file_lines site.marks file served changed

-- the head of the response of this plan, note and date was added
pub record IsHeadAdded (site : SeenSite) (plan : Plan) (note : Note) (date old new : List ℕ) : Type 0 where
  pub changed : List ℕ
  pub is_changed : IsTimeLine (told_second site.marks note.date (file_of site plan.served)) changed
  pub added : new ≡ old ++ head_of site plan note date changed
