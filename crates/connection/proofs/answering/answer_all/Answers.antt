use Rattle.std.proofs.Common.{◌++◌, ◌∙◌, refl}
use Rattle.streams.specs.Laws.{Appends-then}
use Rattle.connection.proofs.Known.{regroup, holds_still, sent_of}
use Rattle.connection.proofs.Conversing.{conversing_next, conversing_same, conversing_says, fewer_unread, front-none}
use Rattle.connection.proofs.answering.answer_all.Goals as goal

pub returns-then-wants_input-clause-paused : goal.returns-then-wants_input-clause-paused
returns-then-wants_input-clause-paused g c = λ was fed before talk.
    let so_far = c.loop-talk.invariant.talk was fed before talk in
    let wants = c.if-wants_input.ensures.wants refl in
    (so_far.0, so_far.1, (rw wants.0 front-none, wants.1, so_far.2))

pub returns-then-wants_input-clause-stands : goal.returns-then-wants_input-clause-stands
returns-then-wants_input-clause-stands g c =
    let wants = c.if-wants_input.ensures.wants refl in (rw wants.0 front-none, wants.1)

pub returns-in-Input-clause-paused : goal.returns-in-Input-clause-paused
returns-in-Input-clause-paused g c = λ was fed before talk.
    let so_far = c.loop-talk.invariant.talk was fed before talk in
    let turned = c.in-Input.ensures.turned in
    (so_far.0, so_far.1, rw turned.2 (turned.0, turned.1, conversing_same _ _ _ _ _ _ (conversing_says _ _ _ _ so_far.2 (holds_still before so_far.0 _ _ c.in-Input.ensures.said)) c.in-Input.ensures.due))

pub returns-in-Malformed-clause-paused : goal.returns-in-Malformed-clause-paused
returns-in-Malformed-clause-paused g c = λ was fed before talk.
    let so_far = c.loop-talk.invariant.talk was fed before talk in
    let turned = c.in-Malformed.ensures.turned in
    (so_far.0, so_far.1, rw turned.2 (turned.0, turned.1, conversing_same _ _ _ _ _ _ (conversing_says _ _ _ _ so_far.2 (holds_still before so_far.0 _ _ c.in-Malformed.ensures.said)) c.in-Malformed.ensures.due))

pub returns-in-Closed-clause-paused : goal.returns-in-Closed-clause-paused
returns-in-Closed-clause-paused g c = λ was fed before talk.
    let so_far = c.loop-talk.invariant.talk was fed before talk in
    let turned = c.in-Closed.ensures.turned in
    (so_far.0, so_far.1, rw turned.1 (turned.0, conversing_same _ _ _ _ _ _ (conversing_says _ _ _ _ so_far.2 (holds_still before so_far.0 _ _ c.in-Closed.ensures.said)) c.in-Closed.ensures.due))

pub returns-in-NoMemory-clause-paused : goal.returns-in-NoMemory-clause-paused
returns-in-NoMemory-clause-paused g c = λ was fed before talk.
    let so_far = c.loop-talk.invariant.talk was fed before talk in
    let turned = c.in-NoMemory.ensures.turned in
    (so_far.0, so_far.1, (c.loop-talk.talk.client, turned.0, turned.1, conversing_same _ _ _ _ _ _ (conversing_says _ _ _ _ so_far.2 (holds_still before so_far.0 _ _ c.in-NoMemory.ensures.said)) c.in-NoMemory.ensures.due))

pub returns-in-Err-clause-paused : goal.returns-in-Err-clause-paused
returns-in-Err-clause-paused g c = λ was fed before talk.
    let so_far = c.loop-talk.invariant.talk was fed before talk in
    let put = c.in-Err.ensures.put in
    (so_far.0 ++ put.0, Appends-then _ _ _ so_far.0 put.0 so_far.1 put.3, (c.answer_next.new.client, _, put.1, conversing_next _ _ _ _ _ _ _ _ (conversing_says _ _ _ _ so_far.2 (holds_still before so_far.0 _ _ c.in-Reply.ensures.said)) c.in-Reply.ensures.due, regroup before so_far.0 _ _ put.0 put.1 put.2))

pub loop-talk-smaller-in_default : goal.loop-talk-smaller-in_default
loop-talk-smaller-in_default g c = fewer_unread _ _ _ c.in-Reply.ensures.turned.1

pub loop-talk-preserved-in_default : goal.loop-talk-preserved-in_default
loop-talk-preserved-in_default g c =
    let put = c.in_default.ensures.put in
    record {
      talk = λ was fed before talk.
          let so_far = c.loop-talk.invariant.talk was fed before talk in (
            so_far.0 ++ put.0,
            Appends-then _ _ _ so_far.0 put.0 so_far.1 put.1,
            conversing_says _ _ _ _ (conversing_next _ _ _ _ _ _ _ _ (conversing_says _ _ _ _ so_far.2 (holds_still before so_far.0 _ _ c.in-Reply.ensures.said)) c.in-Reply.ensures.due) (regroup before so_far.0 _ _ put.0 _ put.2),
          );
      room = c.loop-talk.invariant.room;
      told = c.in_default.ensures.told ∙ c.loop-talk.invariant.told;
      rests = c.answer_next.ensures.rests;
      attends = c.answer_next.ensures.attends;
    }

pub returns-in-Err-say_line-clause-paused : goal.returns-in-Err-say_line-clause-paused
returns-in-Err-say_line-clause-paused g c = λ was fed before talk.
    let so_far = c.loop-talk.invariant.talk was fed before talk in
    let put = c.in-Err-say_line.ensures.put in
    (so_far.0 ++ put.0, Appends-then _ _ _ so_far.0 put.0 so_far.1 put.3, (c.answer_next.new.client, _, put.1, conversing_next _ _ _ _ _ _ _ _ (conversing_says _ _ _ _ so_far.2 (holds_still before so_far.0 _ _ c.in-Line.ensures.said)) c.in-Line.ensures.due, regroup before so_far.0 _ _ put.0 put.1 put.2))

pub loop-talk-smaller-in_default-say_line : goal.loop-talk-smaller-in_default-say_line
loop-talk-smaller-in_default-say_line g c = fewer_unread _ _ _ c.in-Line.ensures.turned.1

pub loop-talk-preserved-in_default-say_line : goal.loop-talk-preserved-in_default-say_line
loop-talk-preserved-in_default-say_line g c =
    let put = c.in_default-say_line.ensures.put in
    record {
      talk = λ was fed before talk.
          let so_far = c.loop-talk.invariant.talk was fed before talk in (
            so_far.0 ++ put.0,
            Appends-then _ _ _ so_far.0 put.0 so_far.1 put.1,
            conversing_says _ _ _ _ (conversing_next _ _ _ _ _ _ _ _ (conversing_says _ _ _ _ so_far.2 (holds_still before so_far.0 _ _ c.in-Line.ensures.said)) c.in-Line.ensures.due) (regroup before so_far.0 _ _ put.0 _ put.2),
          );
      room = c.loop-talk.invariant.room;
      told = c.in_default-say_line.ensures.told ∙ c.loop-talk.invariant.told;
      rests = c.answer_next.ensures.rests;
      attends = c.answer_next.ensures.attends;
    }

pub returns-in-Err-say_values-clause-paused : goal.returns-in-Err-say_values-clause-paused
returns-in-Err-say_values-clause-paused g c = λ was fed before talk.
    let so_far = c.loop-talk.invariant.talk was fed before talk in
    let put = c.in-Err-say_values.ensures.put in
    (so_far.0 ++ put.0, Appends-then _ _ _ so_far.0 put.0 so_far.1 put.3, (c.answer_next.new.client, _, put.1, conversing_next _ _ _ _ _ _ _ _ (conversing_says _ _ _ _ so_far.2 (holds_still before so_far.0 _ _ c.in-Values.ensures.said)) c.in-Values.ensures.due, regroup before so_far.0 _ _ put.0 put.1 put.2))

pub loop-talk-smaller-in_default-say_values : goal.loop-talk-smaller-in_default-say_values
loop-talk-smaller-in_default-say_values g c = fewer_unread _ _ _ c.in-Values.ensures.turned.1

pub loop-talk-preserved-in_default-say_values : goal.loop-talk-preserved-in_default-say_values
loop-talk-preserved-in_default-say_values g c =
    let put = c.in_default-say_values.ensures.put in
    record {
      talk = λ was fed before talk.
          let so_far = c.loop-talk.invariant.talk was fed before talk in (
            so_far.0 ++ put.0,
            Appends-then _ _ _ so_far.0 put.0 so_far.1 put.1,
            conversing_says _ _ _ _ (conversing_next _ _ _ _ _ _ _ _ (conversing_says _ _ _ _ so_far.2 (holds_still before so_far.0 _ _ c.in-Values.ensures.said)) c.in-Values.ensures.due) (regroup before so_far.0 _ _ put.0 _ put.2),
          );
      room = c.loop-talk.invariant.room;
      told = c.in_default-say_values.ensures.told ∙ c.loop-talk.invariant.told;
      rests = c.answer_next.ensures.rests;
      attends = c.answer_next.ensures.attends;
    }

pub returns-in-Err-say_value-clause-paused : goal.returns-in-Err-say_value-clause-paused
returns-in-Err-say_value-clause-paused g c = λ was fed before talk.
    let so_far = c.loop-talk.invariant.talk was fed before talk in
    let put = c.in-Err-say_value.ensures.put in
    (so_far.0 ++ put.0, Appends-then _ _ _ so_far.0 put.0 so_far.1 put.3, (c.answer_next.new.client, _, put.1, conversing_next _ _ _ _ _ _ _ _ (conversing_says _ _ _ _ so_far.2 (holds_still before so_far.0 _ _ c.in-Value.ensures.said)) c.in-Value.ensures.due, regroup before so_far.0 _ _ put.0 put.1 put.2))

pub loop-talk-smaller-in_default-say_value : goal.loop-talk-smaller-in_default-say_value
loop-talk-smaller-in_default-say_value g c = fewer_unread _ _ _ c.in-Value.ensures.turned.1

pub loop-talk-preserved-in_default-say_value : goal.loop-talk-preserved-in_default-say_value
loop-talk-preserved-in_default-say_value g c =
    let put = c.in_default-say_value.ensures.put in
    record {
      talk = λ was fed before talk.
          let so_far = c.loop-talk.invariant.talk was fed before talk in (
            so_far.0 ++ put.0,
            Appends-then _ _ _ so_far.0 put.0 so_far.1 put.1,
            conversing_says _ _ _ _ (conversing_next _ _ _ _ _ _ _ _ (conversing_says _ _ _ _ so_far.2 (holds_still before so_far.0 _ _ c.in-Value.ensures.said)) c.in-Value.ensures.due) (regroup before so_far.0 _ _ put.0 _ put.2),
          );
      room = c.loop-talk.invariant.room;
      told = c.in_default-say_value.ensures.told ∙ c.loop-talk.invariant.told;
      rests = c.answer_next.ensures.rests;
      attends = c.answer_next.ensures.attends;
    }

pub returns-in-Err-go_on_behind-clause-paused : goal.returns-in-Err-go_on_behind-clause-paused
returns-in-Err-go_on_behind-clause-paused g c = λ was fed before talk.
    let so_far = c.loop-talk.invariant.talk was fed before talk in
    let put = c.in-Err-go_on_behind.ensures.put in
    let all = sent_of c.loop-talk.talk.out.items _ c.answer_next.new.out.items (put.0 ++ put.1) c.in-Said.ensures.said put.2 in
    (so_far.0 ++ put.0, Appends-then _ _ _ so_far.0 put.0 so_far.1 put.3, (c.answer_next.new.client, _, put.1, conversing_next _ _ _ _ _ _ _ _ so_far.2 c.in-Said.ensures.due, regroup before so_far.0 _ _ put.0 put.1 all))

pub loop-talk-smaller : goal.loop-talk-smaller
loop-talk-smaller g c = fewer_unread _ _ _ c.in-Said.ensures.turned.1

pub loop-talk-preserved : goal.loop-talk-preserved
loop-talk-preserved g c =
    let put = c.in_default-go_on_behind.ensures.put in
    let all = sent_of c.loop-talk.talk.out.items _ c.answer_next.new.out.items (put.0 ++ c.go_on_behind.new.out.items) c.in-Said.ensures.said put.2 in
    record {
      talk = λ was fed before talk.
          let so_far = c.loop-talk.invariant.talk was fed before talk in (
            so_far.0 ++ put.0,
            Appends-then _ _ _ so_far.0 put.0 so_far.1 put.1,
            conversing_says _ _ _ _ (conversing_next _ _ _ _ _ _ _ _ so_far.2 c.in-Said.ensures.due) (regroup before so_far.0 _ _ put.0 _ all),
          );
      room = c.loop-talk.invariant.room;
      told = c.in_default-go_on_behind.ensures.told ∙ c.loop-talk.invariant.told;
      rests = c.answer_next.ensures.rests;
      attends = c.answer_next.ensures.attends;
    }
