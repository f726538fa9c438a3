-- A response: its head (RFC 9112, section 4; RFC 9110, sections 6.6.1, 8.3, 8.6, 8.8, 10.2, 14.3 and 14.4) and its body.
use Rattle.std.specs.Prelude.{◌≡◌, ℕ, ◌-◌, ◌==◌, ◌&&◌, min, Bool, true, false, List, [], ◌++◌, length, codes, Option, Some, None, slice_get, if◌then◌else◌}
use Rattle.std.specs.Fmt.{decimal}
use Rattle.httpdate.specs.Date.{unix_secs, date_text}
use Rattle.httpdate.specs.declared.date.HttpDate.{HttpDate}
use Rattle.mpm_base.specs.declared.note.Note.{Note}
use Rattle.mpm_base.specs.declared.note.Snapshot.{Snapshot}
use Rattle.mpm_base.specs.declared.store.File.{File}
use Rattle.media_types.specs.MediaType.{type_of_name}
use Rattle.file_table.specs.Site.{SeenSite}
use Rattle.file_table.specs.Tag.{tag_of}
use Rattle.file_table.specs.declared.marks.Marks.{Marks}
use Rattle.http_core.specs.Conditions.{has_marks}
use Rattle.http_core.specs.Served.{code_of}
use Rattle.http_core.specs.Code.{code_text, number_of}
use Rattle.http_core.specs.StatusPage.{page_text, page_type}
use Rattle.http_core.specs.declared.code.Code.{Code}
use Rattle.http_core.specs.declared.code.Code.TheVariants as code
use Rattle.http_core.specs.declared.plan.Plan.{Plan}
use Rattle.http_core.specs.declared.plan.Served.{Served}
use Rattle.http_core.specs.declared.plan.Served.TheVariants as served
use Rattle.http_core.specs.declared.reply.Body.{Body}
use Rattle.http_core.specs.declared.reply.Body.TheVariants as body
use Rattle.http_core.specs.declared.reply.Reply.{Reply}

-- a line of a head, with its end
abbrev pub head_line_of : List ℕ → List ℕ
head_line_of text = text ++ codes "\r\n"

-- the line of the connection (RFC 9112, section 9.3): close for the last response, and keep-alive for another one to HTTP/1.0
abbrev pub connection_line : Bool → ℕ → List ℕ
connection_line last minor =
    if last then head_line_of (codes "Connection: close") else (if minor == 0 then head_line_of (codes "Connection: keep-alive") else [])

-- the methods that are served, for OPTIONS and where the method isn't allowed
abbrev pub allow_line : Served → List ℕ
allow_line served.Options = head_line_of (codes "Allow: GET, HEAD, OPTIONS")
allow_line (served.Refused code.MethodNotAllowed) = head_line_of (codes "Allow: GET, HEAD, OPTIONS")
allow_line (served.Refused other) = []
allow_line (served.Page auto) = []
allow_line (served.Whole part) = []
allow_line (served.Part part) = []
allow_line (served.Unsatisfied size) = []
allow_line (served.Unmodified place) = []
allow_line (served.Moved path) = []

-- what to ask for instead
abbrev pub location_line : Served → List ℕ
location_line (served.Moved location) = head_line_of (codes "Location: " ++ location)
location_line served.Options = []
location_line (served.Refused reason) = []
location_line (served.Page auto) = []
location_line (served.Whole part) = []
location_line (served.Part part) = []
location_line (served.Unsatisfied size) = []
location_line (served.Unmodified place) = []

-- which bytes of how many follow; the last one is named itself
abbrev pub range_line : Served → List ℕ
range_line (served.Part part) =
    head_line_of (codes "Content-Range: bytes " ++ decimal part.from ++ codes "-" ++ decimal (part.to - 1) ++ codes "/" ++ decimal part.size)
range_line (served.Unsatisfied size) = head_line_of (codes "Content-Range: bytes */" ++ decimal size)
range_line served.Options = []
range_line (served.Refused reason) = []
range_line (served.Page auto) = []
range_line (served.Whole part) = []
range_line (served.Moved path) = []
range_line (served.Unmodified place) = []

-- the file that is served, whole or in part, or that the client has as it is
abbrev pub file_of : SeenSite → Served → Option File
file_of site (served.Whole part) = slice_get site.files part.file
file_of site (served.Part part) = slice_get site.files part.file
file_of site (served.Unmodified place) = slice_get site.files place
file_of site served.Options = None
file_of site (served.Refused reason) = None
file_of site (served.Page auto) = None
file_of site (served.Unsatisfied size) = None
file_of site (served.Moved path) = None

-- the line of a file's tag (RFC 9110, section 8.8.3), where files have tags
abbrev pub tag_line : Marks → Option File → List ℕ
tag_line m None = []
tag_line m (Some file) = if m.tags then head_line_of (codes "ETag: " ++ tag_of file.bytes) else []

-- the second that is told as that of a file's last change, where times count: no later one than that of the response's date (section 8.8.2.1)
abbrev pub told_second : Marks → ℕ → Option File → Option ℕ
told_second m now None = None
told_second m now (Some file) = if m.times then Some (min file.second now) else None

-- the line says that second (section 8.8.2); there is none where none is told
abbrev pub IsTimeLine : Option ℕ → List ℕ → Type 0
IsTimeLine None text = text ≡ []
IsTimeLine (Some second) text =
    (date : HttpDate) × (unix_secs date ≡ second) × (text ≡ head_line_of (codes "Last-Modified: " ++ date_text date))

-- bytes of a file are sent, the whole or a part
abbrev pub sends_file : Served → Bool
sends_file (served.Whole part) = true
sends_file (served.Part part) = true
sends_file (served.Unmodified place) = false
sends_file served.Options = false
sends_file (served.Refused reason) = false
sends_file (served.Page auto) = false
sends_file (served.Unsatisfied size) = false
sends_file (served.Moved path) = false

-- that parts of the file may be asked for (section 14.3), which is said where files have marks
abbrev pub accepts_line : Marks → Served → List ℕ
accepts_line m served = if has_marks m && sends_file served then head_line_of (codes "Accept-Ranges: bytes") else []

-- the lines that speak of the file, whose last change is told by that line
abbrev pub file_lines : Marks → Option File → Served → List ℕ → List ℕ
file_lines m file served changed = tag_line m file ++ changed ++ accepts_line m served

-- the type of the file at the place
abbrev pub type_of_file : SeenSite → Option File → List ℕ
type_of_file site None = []
type_of_file site (Some file) = type_of_name site.types file.name

-- the content type of what is served: that of the file or of the status page, or a text; OPTIONS has none, nor has a file that the client has
abbrev pub type_line : SeenSite → Served → List ℕ
type_line site served.Options = []
type_line site (served.Unmodified place) = []
type_line site (served.Whole part) = head_line_of (codes "Content-Type: " ++ type_of_file site (slice_get site.files part.file))
type_line site (served.Part part) = head_line_of (codes "Content-Type: " ++ type_of_file site (slice_get site.files part.file))
type_line site (served.Page auto) = head_line_of (codes "Content-Type: " ++ page_type auto)
type_line site (served.Unsatisfied size) = head_line_of (codes "Content-Type: text/plain")
type_line site (served.Moved path) = head_line_of (codes "Content-Type: text/plain")
type_line site (served.Refused reason) = head_line_of (codes "Content-Type: text/plain")

-- a body that says the code
abbrev pub code_body : Code → List ℕ
code_body c = code_text c ++ codes "\n"

-- the body of a GET, where the status page shows this
abbrev pub body_of_get : Served → Option Snapshot → Body
body_of_get (served.Whole part) page = body.File part.file part.from part.to
body_of_get (served.Part part) page = body.File part.file part.from part.to
body_of_get served.Options page = body.Nothing
body_of_get (served.Unmodified place) page = body.Nothing
body_of_get (served.Page auto) page = body.Own (page_text auto page)
body_of_get (served.Unsatisfied size) page = body.Own (code_body code.RangeNotSatisfiable)
body_of_get (served.Moved path) page = body.Own (code_body code.MovedPermanently)
body_of_get (served.Refused reason) page = body.Own (code_body reason)

-- how many bytes a body has
abbrev pub body_length : Body → ℕ
body_length body.Nothing = 0
body_length (body.Own bytes) = length bytes
body_length (body.File file from to) = to - from

-- the first two lines of a head
abbrev pub first_lines : Code → List ℕ → List ℕ
first_lines c date = head_line_of (codes "HTTP/1.1 " ++ code_text c) ++ head_line_of (codes "Date: " ++ date)

-- the last lines of a head, for a body of so many bytes
abbrev pub last_lines : ℕ → List ℕ
last_lines size = head_line_of (codes "Content-Length: " ++ decimal size) ++ head_line_of []

-- the lines behind the type: where the client has the file as it is there is no length (RFC 9110, sections 8.6 and 15.4.5)
abbrev pub end_lines : Served → ℕ → List ℕ
end_lines (served.Unmodified place) size = head_line_of []
end_lines (served.Whole part) size = last_lines size
end_lines (served.Part part) size = last_lines size
end_lines served.Options size = last_lines size
end_lines (served.Refused reason) size = last_lines size
end_lines (served.Page auto) size = last_lines size
end_lines (served.Unsatisfied n) size = last_lines size
end_lines (served.Moved path) size = last_lines size

-- the head of the response of this plan, note, date and line of the last change: a HEAD has the same lines as a GET (RFC 9110, section 9.3.2)
abbrev pub head_of : SeenSite → Plan → Note → List ℕ → List ℕ → List ℕ
head_of site plan note date changed =
    first_lines (code_of plan.served) date ++ connection_line note.last plan.minor ++ allow_line plan.served ++ location_line plan.served
    ++ range_line plan.served ++ file_lines site.marks (file_of site plan.served) plan.served changed ++ type_line site plan.served
    ++ end_lines plan.served (body_length (body_of_get plan.served note.page))

-- the body of the response of this plan and note; a HEAD has none
abbrev pub reply_body : Plan → Note → Body
reply_body plan note = if plan.only_head then body.Nothing else body_of_get plan.served note.page

-- the reply is the response of this plan, dated by the note's second, behind the bytes that were there
pub record IsReply (site : SeenSite) (plan : Plan) (note : Note) (before : List ℕ) (reply : Reply) : Type 0 where
  pub date : HttpDate
  pub second : unix_secs date ≡ note.date
  pub changed : List ℕ
  pub is_changed : IsTimeLine (told_second site.marks note.date (file_of site plan.served)) changed
  pub head : reply.head ≡ before ++ head_of site plan note (date_text date) changed
  pub body : reply.body ≡ reply_body plan note

-- the head of the response to a refused head
abbrev pub refusal_head : Code → List ℕ → List ℕ
refusal_head c date =
    first_lines c date ++ head_line_of (codes "Connection: close") ++ head_line_of (codes "Content-Type: text/plain")
    ++ last_lines (length (code_body c))

-- the reply is the response to a refused head, by the code whose number the note has
pub record IsRefusalReply (note : Note) (before : List ℕ) (reply : Reply) : Type 0 where
  pub refused_by : Code
  pub number : number_of refused_by ≡ note.code
  pub date : HttpDate
  pub second : unix_secs date ≡ note.date
  pub head : reply.head ≡ before ++ refusal_head refused_by (date_text date)
  pub body : reply.body ≡ body.Own (code_body refused_by)
