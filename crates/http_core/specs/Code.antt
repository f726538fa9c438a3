-- The codes of responses, their numbers and their reasons (RFC 9110, section 15).
use Rattle.std.specs.Prelude.{ℕ, ◌==◌, ◌||◌, ◌++◌, Bool, List, codes}
use Rattle.std.specs.Fmt.{decimal}
use Rattle.http_core.specs.declared.code.Code.{Code}
use Rattle.http_core.specs.declared.code.Code.TheVariants as code

-- the number of a code
abbrev pub number_of : Code → ℕ
number_of code.Ok = 200
number_of code.PartialContent = 206
number_of code.MovedPermanently = 301
number_of code.NotModified = 304
number_of code.BadRequest = 400
number_of code.NotFound = 404
number_of code.MethodNotAllowed = 405
number_of code.PreconditionFailed = 412
number_of code.ContentTooLarge = 413
number_of code.UriTooLong = 414
number_of code.RangeNotSatisfiable = 416
number_of code.ExpectationFailed = 417
number_of code.NotImplemented = 501
number_of code.HttpVersionNotSupported = 505

-- the reason of a code
abbrev pub reason_of : Code → List ℕ
reason_of code.Ok = codes "OK"
reason_of code.PartialContent = codes "Partial Content"
reason_of code.MovedPermanently = codes "Moved Permanently"
reason_of code.NotModified = codes "Not Modified"
reason_of code.BadRequest = codes "Bad Request"
reason_of code.NotFound = codes "Not Found"
reason_of code.MethodNotAllowed = codes "Method Not Allowed"
reason_of code.PreconditionFailed = codes "Precondition Failed"
reason_of code.ContentTooLarge = codes "Content Too Large"
reason_of code.UriTooLong = codes "URI Too Long"
reason_of code.RangeNotSatisfiable = codes "Range Not Satisfiable"
reason_of code.ExpectationFailed = codes "Expectation Failed"
reason_of code.NotImplemented = codes "Not Implemented"
reason_of code.HttpVersionNotSupported = codes "HTTP Version Not Supported"

-- a code as it stands in the first line of a response: its number and its reason (RFC 9112, section 4)
abbrev pub code_text : Code → List ℕ
code_text c = decimal (number_of c) ++ codes " " ++ reason_of c

-- the number of a code by which a head is refused
abbrev pub refuses_head : ℕ → Bool
refuses_head number = number == 400 || number == 413 || number == 414 || number == 417 || number == 501 || number == 505

-- the response that tells a client to send its body (RFC 9110, section 15.2.1)
abbrev pub continue_text : List ℕ
continue_text = codes "HTTP/1.1 100 Continue\r\n\r\n"
