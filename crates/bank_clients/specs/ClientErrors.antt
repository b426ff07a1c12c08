-- Errors of accepting a client.
use Rattle.std.specs.declared.io.ErrorKind.{ErrorKind}
use Rattle.std.specs.declared.io.ErrorKind.TheVariants.{ConnectionAborted, ConnectionReset, HostUnreachable, Interrupted, NetworkDown, NetworkUnreachable, TimedOut}

-- the client, or the way to it, is gone; the device is well
abbrev pub IsOfAClient : ErrorKind → Type 0
IsOfAClient ConnectionAborted = Unit {0}
IsOfAClient ConnectionReset = Unit {0}
IsOfAClient HostUnreachable = Unit {0}
IsOfAClient NetworkUnreachable = Unit {0}
IsOfAClient NetworkDown = Unit {0}
IsOfAClient TimedOut = Unit {0}
IsOfAClient Interrupted = Unit {0}
IsOfAClient kind = ⊥
