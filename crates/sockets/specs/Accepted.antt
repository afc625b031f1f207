-- Connections that were accepted.
use Rattle.std.specs.declared.net.TcpStream.{TcpStream}
use Rattle.sockets.specs.declared.serving.Accepted.{Accepted}

-- the stream of one
abbrev pub stream_of : Accepted → TcpStream
stream_of accepted = accepted.stream
