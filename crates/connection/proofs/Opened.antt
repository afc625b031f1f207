-- A session that waits for a request and has not ended.
use Rattle.std.proofs.Common.{◌≡◌, refl}
use Rattle.session.specs.declared.modes.AnySession.{AnySession}
use Rattle.session.specs.declared.modes.AnySession.TheVariants as any
use Rattle.session.specs.declared.modes.Session.{Session}
use Rattle.session.specs.declared.modes.Closed.{Closed}
use Rattle.session.specs.Standings.{standing_of}
use Rattle.connection.specs.declared.state.State.{State}
use Rattle.connection.specs.declared.state.State.TheVariants as state
use Rattle.connection.specs.Clients.{stage_of, IsReady, IsOpen, mode_of}

open_any : (session : AnySession) → IsOpen (standing_of session).mode
open_any (any.Idle session) = tt
open_any (any.Queueing session) = tt
open_any (any.Spoiled session) = tt

-- it is in a mode
pub open_stage : (s : State) → IsReady (stage_of s) → ((session : Session Closed) → s ≡ state.Closed session → ⊥) → IsOpen (mode_of (stage_of s))
open_stage (state.Ready session) ready not_closed = open_any session
open_stage (state.Called called) ready not_closed = absurd ready
open_stage (state.Closed session) ready not_closed = absurd (not_closed session refl)
open_stage state.Stepping ready not_closed = absurd ready
