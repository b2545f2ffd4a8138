-- What the balancing of a line keeps, and how much work it makes.
use Rattle.std.proofs.Common.{◌≡◌, ℕ, ◌+◌, ◌*◌, ◌-◌, ◌≤◌, List, [], ◌∷◌, ◌++◌, length, map, Result, Ok, Err, refl, sym, ◌∙◌, ap, subst, arith, length-append, append_assoc, inl, inr}
use Rattle.std.proofs.lemmas.List.{append-nil, length-map, map-append}
use Rattle.kb_word.specs.declared.memory.Memory.{Memory}
use Rattle.kb_machine.specs.declared.origin.Origin.{Origin}
use Rattle.kb_machine.specs.States.{Problem, State}
use Rattle.kb_machine.specs.Course.{Course}
use Rattle.kb_book.specs.Answers.{BalanceSays}
use Rattle.kb_book.specs.declared.answers.Balance.{Balance}
use Rattle.kb_book.specs.declared.answers.Balance.TheVariants as balances
use Rattle.kb_share.specs.Balancing.{BalancesAtMost, state_balanced}
use Rattle.kb_share.specs.Finding.{Knows}
use Rattle.kb_share.specs.Interreduced.{IsFull, LeftSidesAreReduced, RightSidesAreReduced, StaysReduced}
use Rattle.kb_share.specs.Passes.{origin_of}
use Rattle.kb_share.specs.Settling.{Settles}
use Rattle.kb_share.specs.Work.{GoesOn, GoesOnBy, work}
use Rattle.kb_share.specs.declared.balancing.Inverses.{Inverses}
use Rattle.kb_share.specs.declared.finding.Finder.{Finder}
use Rattle.kb_share.specs.declared.found.Found.{Found}
use Rattle.kb_share.proofs.Stages.{settles_then}
use Rattle.kb_share.proofs.Staying.{knows_same, stays_then}

-- ---- a few overlaps become pending in front

pub balances_none : (most : ℕ) (course : Course) → BalancesAtMost most course course
balances_none most course = record { found = []; few = omega arith; problem = refl; state = refl }

same_balances : (most : ℕ) (before after : Course) → after ≡ before → BalancesAtMost most before after
same_balances most before after same = subst (λ (c : Course). BalancesAtMost most before c) (sym same) (balances_none most before)

-- whatever a book answers that is asked to balance
pub balances_one : (one : Found) (before after : Course) (answer : Result Balance Memory)
    → BalanceSays one.first one.second one.place before after answer → BalancesAtMost 1 before after
balances_one one before after (Ok balances.Balanced) says =
    record { found = one ∷ []; few = omega arith; problem = says.problem; state = says.step.is }
balances_one one before after (Ok balances.Stays) says = same_balances 1 before after says.0
balances_one one before after (Err memory) says = same_balances 1 before after says

balanced_twice : (state : State) (found more : List Found)
    → state_balanced (state_balanced state found) more ≡ state_balanced state (more ++ found)
balanced_twice state found more =
    ap (λ (pending : List Origin). record state { pending = pending })
    (sym (append_assoc (map origin_of more) (map origin_of found) state.pending)
    ∙ ap (λ (o : List Origin). o ++ state.pending) (sym (map-append origin_of more found)))

-- few, and few more
pub balances_then : (one two three : Course) → BalancesAtMost 1 one two → BalancesAtMost 1 two three → BalancesAtMost 2 one three
balances_then one two three a b = record {
  found = b.found ++ a.found;
  few = let first = a.few in let second = b.few in omega (arith, first, second, length-append b.found a.found);
  problem = b.problem ∙ a.problem;
  state = b.state ∙ ap (λ (s : State). state_balanced s b.found) a.state ∙ balanced_twice one.state a.found b.found;
}

-- fewer
pub balances_fewer : (before after : Course) → BalancesAtMost 1 before after → BalancesAtMost 2 before after
balances_fewer before after a = record {
  found = a.found;
  few = let few = a.few in omega (arith, few);
  problem = a.problem;
  state = a.state;
}

-- ---- what that keeps

-- nothing but pending pairs came
balanced_settles : (most : ℕ) (before after : Course) → BalancesAtMost most before after → Settles before after
balanced_settles most before after balanced = record {
  later = record {
    problem = balanced.problem;
    made = [];
    lines = ap (λ (s : State). s.lines) balanced.state ∙ sym (append-nil before.state.lines);
  };
  versions = ap (λ (s : State). s.versions) balanced.state;
}

-- and they are the work that is more
balanced_work : (most : ℕ) (before after : Course) (balanced : BalancesAtMost most before after)
    → work after ≡ work before + length balanced.found
balanced_work most before after balanced =
    let found = balanced.found in
    let pending : length (map origin_of found ++ before.state.pending) ≡ length found + length before.state.pending =
    length-append (map origin_of found) before.state.pending
    ∙ ap (λ (n : ℕ). n + length before.state.pending) (length-map found origin_of) in
    ap (λ (p : Problem). 4 * (p.most_lines - length after.state.lines) + length after.state.live + length after.state.pending)
    balanced.problem
    ∙ ap (λ (s : State). 4 * (before.problem.most_lines - length s.lines) + length s.live + length s.pending) balanced.state
    ∙ more (4 * (before.problem.most_lines - length before.state.lines)) (length before.state.live) (length before.state.pending)
    (length found) (length (map origin_of found ++ before.state.pending)) pending
  where
    more : (a b p n q : ℕ) → q ≡ n + p → a + b + q ≡ a + b + p + n
    more a b p n q e = omega (arith, e)

pub balances_goes_on : (most : ℕ) (before after : Course) → BalancesAtMost most before after → GoesOnBy most before after
balances_goes_on most before after balanced =
    let few = balanced.few in
    record {
      settles = balanced_settles most before after balanced;
      most = at_most (work after) (work before) (length balanced.found) most (balanced_work most before after balanced) few;
    }
  where
    at_most : (a b n m : ℕ) → a ≡ b + n → n ≤ m → a ≤ b + m
    at_most a b n m e few = omega (arith, e, few)

-- what went on with no more work goes on with a little
pub goes_on_by : (most : ℕ) (before after : Course) → GoesOn before after → GoesOnBy most before after
goes_on_by most before after goes =
    let less = goes.less in
    record { settles = goes.settles; most = at_most (work after) (work before) most less }
  where
    at_most : (a b m : ℕ) → a ≤ b → a ≤ b + m
    at_most a b m less = omega (arith, less)

pub goes_on_then_by : (most : ℕ) (one two three : Course) → GoesOn one two → GoesOnBy most two three → GoesOnBy most one three
goes_on_then_by most one two three a b =
    let first = a.less in
    let second = b.most in
    record {
      settles = settles_then one two three a.settles b.settles;
      most = at_most (work one) (work two) (work three) most first second;
    }
  where
    at_most : (a b c m : ℕ) → b ≤ a → c ≤ b + m → c ≤ a + m
    at_most a b c m first second = omega (arith, first, second)

-- the finder knows the book still
pub knows_balanced : (most : ℕ) (finder : Finder) (before after : Course) → BalancesAtMost most before after
    → Knows finder before.state → Knows finder after.state
knows_balanced most finder before after balanced knows =
    knows_same finder before.state after.state (ap (λ (s : State). s.lines) balanced.state)
    (ap (λ (s : State). s.live) balanced.state) knows

-- and whatever is noted of the inverses
pub known_inverses : (finder : Finder) (inverses : Inverses) (state : State) → Knows finder state
    → Knows (record finder { inverses = inverses }) state
known_inverses finder inverses state knows = record { met = knows.met; agrees = knows.agrees; all = knows.all }

-- live rules that were interreduced are so still
pub balances_stays : (most : ℕ) (start before after : Course) → BalancesAtMost most before after → StaysReduced start before
    → StaysReduced start after
balances_stays most start before after balanced stays =
    stays_then start before after stays
    (record {
      lefts = λ lefts. subst LeftSidesAreReduced (sym balanced.state) lefts;
      rights = λ rights. elim rights [
        | inl reduced ↦ inl (subst RightSidesAreReduced (sym balanced.state) reduced)
        | inr full ↦ inr (is_full full)
      ];
    })
  where
    is_full : IsFull before → IsFull after
    is_full full =
        let most_lines : after.problem.most_lines ≡ before.problem.most_lines = ap (λ (p : Problem). p.most_lines) balanced.problem in
        let lines : length after.state.lines ≡ length before.state.lines =
        ap (λ (s : State). length s.lines) balanced.state in
        omega (arith, full, most_lines, lines)
