-- A completion goes on, step after step.
use Rattle.std.proofs.Common.{length, ap, arith, length-append}
use Rattle.kb_machine.specs.Course.{Course}
use Rattle.kb_share.proofs.Stages.{later_itself, later_then}
use Rattle.kb_complete.specs.Completing.{Continues, Grows}

pub continues_itself : (course : Course) → Continues course course
continues_itself course =
    record { later = later_itself course; reduced = record { lefts = λ was. was; rights = λ was. was } }

pub continues_then : (start before after : Course) → Continues start before → Continues before after → Continues start after
continues_then start before after one two = record {
  later = later_then start before after one.later two.later;
  reduced = record {
    lefts = λ was. two.reduced.lefts (one.reduced.lefts was);
    rights = λ was. two.reduced.rights (one.reduced.rights was);
  };
}

-- what has grown since a later stage has grown since an earlier one
pub grows_then : (start before after : Course) → Continues start before → Grows before after → Grows start after
grows_then start before after one grown =
    let long = length-append start.state.lines one.later.made in
    let same = ap length one.later.lines in
    let more = grown.more in
    record {
      continues = continues_then start before after one grown.continues;
      more = omega (arith, long, same, more);
      settled = grown.settled;
      running = grown.running;
      published = grown.published;
    }
