-- What a client's session does, for a client of the world.
use Rattle.std.proofs.Common.{◌≡◌, ◌<◌, List, length, Some, sym, ap, ◌∙◌, arith}
use Rattle.std.proofs.lemmas.Grind.{common_steps}
use Rattle.words.specs.declared.reply.Reply.{Reply}
use Rattle.words.specs.Store.{Bytes}
use Rattle.words.specs.Spelling.{spelling, header}
use Rattle.words.specs.Session.{Turn, Says, Forgets, Tries, Calls, Never, Asked}
use Rattle.transact.specs.declared.call.Call.{Call}
use Rattle.transact.specs.declared.call.Answer.{Answer}
use Rattle.transact.specs.declared.call.Answer.TheVariants as answer
use Rattle.transact.specs.Calls.{asked_of}
use Rattle.session.specs.Standings.{Standing, Wait}
use Rattle.session.specs.Standings as standings
use Rattle.session.specs.Steps.{IsAsked}
use Rattle.connection.specs.declared.client.Next.TheVariants as next
use Rattle.connection.specs.Clients.{Progress, Stage, Ready, Called, Stepping, Gives, Resumes}

-- a request that is taken off leaves fewer bytes
pub fewer_unread : (at later : Progress) (reply : Reply) → Gives at (next.Says reply) later → length later.unread < length at.unread
unfolding spelling header
fewer_unread at later reply gives = rw (gives.1).taken (grind (arith, common_steps))

-- what a session says to a reply is that reply, where its call asked for something
says_wait : (t : Turn) (watched : List Bytes) (call : Call) (wait : Wait) (asked : Asked) (given reply : Reply) (after : Standing)
    → IsAsked t watched call wait → asked_of call ≡ Some asked → standings.Resumes wait (answer.Reply given) reply after → reply ≡ given
says_wait (Says said then) watched call wait asked given reply after is asks resumes = absurd is
says_wait (Tries said done faulty) watched call wait asked given reply after is asks resumes = absurd is
says_wait Never watched call wait asked given reply after is asks resumes = absurd is
says_wait (Forgets said then) watched call wait asked given reply after is asks resumes = absurd (cc (sym (ap asked_of is.1) ∙ asks))
says_wait (Calls wanted done faulty) watched call wait asked given reply after is asks resumes = (rw is.1 at resumes).0

called_wait : {wait other : Wait} → Called wait ≡ Called other → wait ≡ other
called_wait is = cc is

resumes_wait : (stage new : Stage) (wait : Wait) (a : Answer) (reply : Reply) → stage ≡ Called wait → Resumes stage a reply new
    → (then : Standing) × standings.Resumes wait a reply then
resumes_wait (Ready s) new wait a reply is resumes = absurd resumes
resumes_wait (Called w) new wait a reply is resumes = (resumes.0, rw (called_wait is) at resumes.2)
resumes_wait Stepping new wait a reply is resumes = absurd resumes

pub says_given : (before called : Progress) (call : Call) (asked : Asked) (given reply : Reply) (new : Stage)
    → Gives before (next.Calls call) called → asked_of call ≡ Some asked → Resumes called.stage (answer.Reply given) reply new → reply ≡ given
says_given before called call asked given reply new gives asks resumes =
    let says = resumes_wait called.stage new gives.2.0 (answer.Reply given) reply gives.2.1 resumes in
    says_wait _ _ call gives.2.0 asked given reply says.0 gives.2.2 asks says.1
