-- What follows the replies, by how far the next request was read.
use Rattle.std.specs.Prelude.{ℕ, ◌&&◌, not, List, [], if◌then◌else◌}
use Rattle.mpm_base.specs.declared.note.Note.{Note}
use Rattle.mpm_base.specs.Notes.{says_last}
use Rattle.http_core.specs.Code.{continue_text}
use Rattle.conn_state.specs.declared.stage.Stage.{Stage}
use Rattle.conn_state.specs.Rest.{is_awaited}

-- what follows the replies: the response that tells the client to send the body, once its head was read, and nothing behind a reply that was the last
abbrev pub what_follows : List Note → Stage → List ℕ
what_follows notes s = if is_awaited s && not (says_last notes) then continue_text else []
