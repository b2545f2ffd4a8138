use Rattle.std.proofs.Common.{◌≡◌, ◌≢◌, ℕ, ◌≤◌, List, Some, length, sym, subst}
use Rattle.std.specs.List.{Contains}
use Rattle.std.proofs.lemmas.Result.{on_ok_weaker}
use Rattle.kb_word.specs.Words.{Pair}
use Rattle.kb_machine.specs.Lines.{numbered, rule_of, rules_of}
use Rattle.kb_machine.specs.declared.line.Line.{Line}
use Rattle.kb_machine.proofs.Numbers.{numbered_same}
use Rattle.kb_share.proofs.Known.{picked_likely}
use Rattle.kb_share.proofs.finding.Finder.search.Goals as goal
use Rattle.kb_share.specs.Finding.{KnowsLines, PicksAll, HasFactorAt, FindsLines}
use Rattle.kb_share.specs.Signatures.{IsSignature}
use Rattle.kb_share.specs.declared.finding.Finder.{Finder}
use Rattle.kb_share.specs.declared.finding.Side.{Side}

finds : (finder : Finder) (lines : List Line) (live : List ℕ) (side : Side) (k : ℕ) (line : Line) (bits : ℕ) (likely looked found : List ℕ)
    → KnowsLines finder lines live → length lines ≤ finder.met → IsSignature line.left bits → PicksAll finder.kept side bits likely
    → looked ≡ likely → numbered (rules_of lines) k ≡ Some (rule_of line)
    → ((number : ℕ) → Contains looked number → number ≢ k → HasFactorAt side lines live line.left number → Contains found number)
    → FindsLines side lines live k found
finds finder lines live side k line bits likely looked found knows all signature picks same is_line sifted own is_own number another has =
    let is : own ≡ rule_of line = numbered_same (rules_of lines) k own (rule_of line) is_own is_line in
    let mine : HasFactorAt side lines live line.left number = subst (λ (rule : Pair). HasFactorAt side lines live rule.0 number) is has in
    sifted number
    (subst (λ (xs : List ℕ). Contains xs number) (sym same)
    (picked_likely finder lines live side line.left bits likely knows all signature picks number mine))
    another mine

pub returns-clause-all : goal.returns-clause-all
returns-clause-all c =
    on_ok_weaker c.look_at_each.result
    (finds c.args.self.now c.args.lines.now c.args.live.now c.args.side c.args.k c.in-Some.new.now c.of.result.bits
    c.pick.new.picked.items c.deref.result.now c.look_at_each.new.found.items c.requires.known c.requires.all c.of.ensures
    c.in_ok-pick.ensures c.deref.ensures.value c.in-Some.ensures.some)
    c.look_at_each.ensures
