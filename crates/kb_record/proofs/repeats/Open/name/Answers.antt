use Rattle.std.proofs.Common.{◌≡◌, List, true, false, sym, subst, ◌∙◌}
use Rattle.kb_record.specs.NamesMet.{Bracket, Names, has, IsBracket}
use Rattle.kb_record.proofs.OpenLemmas.{Seen, added, repeated, no_names, not_true, not_false}
use Rattle.kb_record.proofs.repeats.Open.name.Goals as goal

pub returns-in_default : goal.returns-in_default
returns-in_default c = λ (next : Names) (f : Bracket) (fs : List Bracket) are.
    (f, fs, are, no_names c.args.name.now f next fs (subst (λ (x : Seen). IsBracket x f) c.in_default.is are.0))

pub returns-then-branch : goal.returns-then-branch
returns-then-branch c = λ (next : Names) (f : Bracket) (fs : List Bracket) are.
    let absent : has c.in-Some.names c.args.name.now ≡ false = not_true _ (sym c.in_ok-insert.ensures.added ∙ c.if-branch.true) in
    let found = added c.in-Some.names c.insert.new.self c.args.name f next fs (subst (λ (x : Seen). IsBracket x f) c.in-Some.is are.0) absent c.in_ok-insert.ensures.updates in
    (found.after, fs, (found.is, are.1), found.on)

pub returns-else-branch : goal.returns-else-branch
returns-else-branch c = λ (next : Names) (f : Bracket) (fs : List Bracket) are.
    let again : has c.in-Some.names c.args.name.now ≡ true = not_false _ (sym c.in_ok-insert.ensures.added ∙ c.if-branch.false) in
    repeated c.in-Some.names c.args.name.now f next fs (subst (λ (x : Seen). IsBracket x f) c.in-Some.is are.0) again
