use Rattle.std.proofs.Common.{◌∙◌, sym}
use Rattle.std.proofs.lemmas.Bool.{true≢false}
use Rattle.kb_system.specs.Problems.{limits_of}
use Rattle.kb_auto.specs.Autgroup.{tried_by}
use Rattle.kb_auto.proofs.GatheredRounds.{begins_with_rules, rules_lack_room}
use Rattle.kb_auto.proofs.trying.try_rules.Goals as goal

pub from_rules-requires-clause-most : goal.from_rules-requires-clause-most
from_rules-requires-clause-most g c = c.args.limits.now.in_range.differences.0

pub try_gathered-requires-clause-gathered : goal.try_gathered-requires-clause-gathered
try_gathered-requires-clause-gathered g c κs within =
    let tried = tried_by (limits_of c.args.limits.now) c.args.limits.now.diffs c.args.presentation.now c.args.rules.now.rules in
    let made = c.in_ok-differences.ensures in record {
      lacks = λ full. rules_lack_room tried _ c.in_ok-differences.answer made.group made.most c.new.ensures.items made.words
          (c.is_full.ensures.0 full);
      gathers = λ room. begins_with_rules tried _ c.in_ok-differences.answer made.group made.most c.new.ensures.items made.words
          (λ full. true≢false (sym (c.is_full.ensures.1 full) ∙ room));
    }
