-- Each text has the number of its code in digits.
use Rattle.std.proofs.Common.{ap, sym}
use Rattle.std.specs.Fmt.{digits}
use Rattle.http_core.specs.Code.{code_text}
use Rattle.http_core.proofs.code.Code.text.Goals as goal

pub returns-in-Ok : goal.returns-in-Ok
unfolding digits
returns-in-Ok c = sym (ap code_text c.in-Ok.is)

pub returns-in-PartialContent : goal.returns-in-PartialContent
unfolding digits
returns-in-PartialContent c = sym (ap code_text c.in-PartialContent.is)

pub returns-in-MovedPermanently : goal.returns-in-MovedPermanently
unfolding digits
returns-in-MovedPermanently c = sym (ap code_text c.in-MovedPermanently.is)

pub returns-in-NotModified : goal.returns-in-NotModified
unfolding digits
returns-in-NotModified c = sym (ap code_text c.in-NotModified.is)

pub returns-in-BadRequest : goal.returns-in-BadRequest
unfolding digits
returns-in-BadRequest c = sym (ap code_text c.in-BadRequest.is)

pub returns-in-NotFound : goal.returns-in-NotFound
unfolding digits
returns-in-NotFound c = sym (ap code_text c.in-NotFound.is)

pub returns-in-MethodNotAllowed : goal.returns-in-MethodNotAllowed
unfolding digits
returns-in-MethodNotAllowed c = sym (ap code_text c.in-MethodNotAllowed.is)

pub returns-in-PreconditionFailed : goal.returns-in-PreconditionFailed
unfolding digits
returns-in-PreconditionFailed c = sym (ap code_text c.in-PreconditionFailed.is)

pub returns-in-ContentTooLarge : goal.returns-in-ContentTooLarge
unfolding digits
returns-in-ContentTooLarge c = sym (ap code_text c.in-ContentTooLarge.is)

pub returns-in-UriTooLong : goal.returns-in-UriTooLong
unfolding digits
returns-in-UriTooLong c = sym (ap code_text c.in-UriTooLong.is)

pub returns-in-RangeNotSatisfiable : goal.returns-in-RangeNotSatisfiable
unfolding digits
returns-in-RangeNotSatisfiable c = sym (ap code_text c.in-RangeNotSatisfiable.is)

pub returns-in-ExpectationFailed : goal.returns-in-ExpectationFailed
unfolding digits
returns-in-ExpectationFailed c = sym (ap code_text c.in-ExpectationFailed.is)

pub returns-in-NotImplemented : goal.returns-in-NotImplemented
unfolding digits
returns-in-NotImplemented c = sym (ap code_text c.in-NotImplemented.is)

pub returns-in-HttpVersionNotSupported : goal.returns-in-HttpVersionNotSupported
unfolding digits
returns-in-HttpVersionNotSupported c = sym (ap code_text c.in-HttpVersionNotSupported.is)
