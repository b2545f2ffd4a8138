use Rattle.std.proofs.Common.{ℕ, List, subst}
use Rattle.kb_trie.specs.LeftSides.{IsLeastOf}
use Rattle.kb_trie.specs.States.{word}
use Rattle.kb_index.specs.Lefts.{StandsAt}
use Rattle.kb_overlap.proofs.Ended.{passing_first, passing_within, passing_at, passing_more, passing_all, fewer_left}
use Rattle.kb_overlap.proofs.prefixes.Prefixes.add_at.Goals as goal

pub loop-next-init : goal.loop-next-init
loop-next-init c =
    let prefixes = c.args.self.now in
    let left : List ℕ = word prefixes.automaton.now.words c.args.state in
    let P : List (List ℕ) → Type 0 = λ lefts. IsLeastOf (StandsAt lefts left) 0 c.first_at-next.result in
    passing_first prefixes.rules.now c.args.index left c.args.place c.first_at-next.result c.args.found.now.items
    (subst P c.requires.prefixes.is c.first_at-next.ensures)

pub next_at-next-requires : goal.next_at-next-requires
next_at-next-requires c =
    let prefixes = c.args.self.now in
    passing_within prefixes.rules.now prefixes.automaton.now.lefts c.requires.prefixes.is (word prefixes.automaton.now.words c.args.state)
    c.loop-next.next c.in-Some.rule c.loop-next.invariant.is c.in-Some.is

pub loop-next-preserved : goal.loop-next-preserved
loop-next-preserved c =
    let prefixes = c.args.self.now in
    let left : List ℕ = word prefixes.automaton.now.words c.args.state in
    let next = c.next_at-next.result in
    let at =
    passing_at prefixes.rules.now prefixes.automaton.now.lefts c.requires.prefixes.is left c.loop-next.next next c.in-Some.rule
    c.loop-next.invariant.is c.in-Some.is c.next_at-next.ensures in
    passing_more prefixes.rules.now c.args.index left c.args.place c.loop-next.next next c.in-Some.rule c.args.found.now.items
    c.loop-next.found.items c.add_other.new.found.items c.loop-next.invariant c.in-Some.is at c.in_ok-add_other.ensures

pub loop-next-smaller : goal.loop-next-smaller
loop-next-smaller c =
    let prefixes = c.args.self.now in
    let left : List ℕ = word prefixes.automaton.now.words c.args.state in
    let next = c.next_at-next.result in
    fewer_left prefixes.rules.now left c.loop-next.next next c.in-Some.rule c.in-Some.is
    (passing_at prefixes.rules.now prefixes.automaton.now.lefts c.requires.prefixes.is left c.loop-next.next next c.in-Some.rule
    c.loop-next.invariant.is c.in-Some.is c.next_at-next.ensures)

pub returns : goal.returns
returns c =
    let prefixes = c.args.self.now in
    passing_all prefixes.rules.now c.args.index (word prefixes.automaton.now.words c.args.state) c.args.place c.loop-next.next
    c.args.found.now.items c.loop-next.found.items c.loop-next.invariant c.in_default.is
