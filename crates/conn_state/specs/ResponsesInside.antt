-- Which bodies of replies are of a site.
use Rattle.std.specs.Prelude.{⊤}
use Rattle.file_table.specs.Site.{SeenSite}
use Rattle.http_core.specs.declared.reply.Body.{Body}
use Rattle.http_core.specs.declared.reply.Body.TheVariants as body
use Rattle.conn_state.specs.Outgoing.{IsRangeOf}

-- the body is of this site
abbrev pub IsBodyOf : SeenSite → Body → Type 0
IsBodyOf site body.Nothing = ⊤
IsBodyOf site (body.Own bytes) = ⊤
IsBodyOf site (body.File file from to) = IsRangeOf site (record { file = file; from = from; to = to })
