-- Which connections are closed only once their clients have had time to read the last reply.
use Rattle.std.specs.Prelude.{Bool, true, false}
use Rattle.connection.specs.declared.serving.Ended.{Ended}
use Rattle.connection.specs.declared.serving.Ended.TheVariants.{EndOfInput, Quit, ProtocolFault, ReadFailed, WriteFailed, NoMemory}

-- The client has gone where its input has ended or its socket has failed; else it may be there yet, and what it sends on is read and dropped.
abbrev pub has_client_by : Ended → Bool
has_client_by EndOfInput = false
has_client_by Quit = true
has_client_by ProtocolFault = true
has_client_by ReadFailed = false
has_client_by WriteFailed = false
has_client_by NoMemory = true
