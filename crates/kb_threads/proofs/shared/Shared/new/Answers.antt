use Rattle.std.proofs.Common.{◌∙◌, sym}
use Rattle.kb_threads.proofs.shared.Shared.new.Goals as goal

pub passes_of-requires : goal.passes_of-requires
passes_of-requires g c =
    let parts = c.requires.parts in
    let all = c.open-entered.ensures in
    (all.parts ∙ (sym parts.0 ∙ parts.1), all.amount)

pub new-requires : goal.new-requires
new-requires g c =
    record { given = c.requires.given; overlaps = c.requires.overlaps; none = c.open-entered.ensures.total }

pub returns : goal.returns
returns g c =
    let parts = c.requires.parts in
    let passes = c.in-Ok.ensures in
    record {
      count = passes.count ∙ (sym parts.1 ∙ parts.0);
      none = passes.none;
      numbers = passes.numbers;
      back = tt;
    }
