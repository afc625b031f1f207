-- Replies of one line.
use Rattle.std.specs.Prelude.{◌≡◌}
use Rattle.words.specs.declared.reply.Line.{Line}
use Rattle.words.specs.declared.reply.Reply.{Reply}
use Rattle.words.specs.Session.{line_reply}

-- the reply is a line
abbrev pub IsLine : Reply → Type 0
IsLine reply = (line : Line) × (reply ≡ line_reply line)
