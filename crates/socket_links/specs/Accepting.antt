-- What the system's answer to a call for a connection comes to.
use Rattle.std.specs.declared.io.ErrorKind.{ErrorKind}
use Rattle.std.specs.declared.io.ErrorKind.TheVariants as kind
use Rattle.socket_links.specs.declared.accepting.NoStream.{NoStream}
use Rattle.socket_links.specs.declared.accepting.NoStream.TheVariants as none

-- what it means that the system refused a connection so
abbrev pub none_for : ErrorKind → NoStream
none_for kind.WouldBlock = none.NoneWaits
none_for kind.ConnectionAborted = none.PassedOver
none_for kind.Interrupted = none.PassedOver
none_for k = none.Failed
