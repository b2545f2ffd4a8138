use Rattle.std.proofs.Common.{ap, sym, ◌∙◌}
use Rattle.kb_record.specs.Listed.{place_view}
use Rattle.kb_fields.proofs.Outcomes.{IfNone_then}
use Rattle.kb_fsafile.proofs.KindLemmas.{numbers_of_entry, no_entry_at}
use Rattle.kb_fsafile.proofs.values.entry_at.Goals as goal

pub returns-in-Numbers-clause-none : goal.returns-in-Numbers-clause-none
returns-in-Numbers-clause-none c =
    IfNone_then c.pair_of.result c.pair_of.ensures.none (λ none entry e.
    none entry (numbers_of_entry c.in-Numbers.numbers.now entry (sym (ap place_view c.in-Numbers.is) ∙ e)))

pub returns-in_default : goal.returns-in_default
returns-in_default c = record { found = tt; none = no_entry_at c.args.place c.in_default.not-Text c.in_default.not-Numbers }
