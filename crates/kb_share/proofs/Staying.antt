-- A finder knows what it knew, and reduced sides stay reduced.
use Rattle.std.proofs.Common.{◌≡◌, ℕ, List, [], ◌∷◌, length, Some, None, Result, Ok, Err, sym, ◌∙◌, ap, subst, inl, inr, arith, length-append}
use Rattle.std.specs.List.{Contains}
use Rattle.std.proofs.lemmas.List.{append-nil, map-append}
use Rattle.std.proofs.lemmas.List.Elements.{Contains-push_cases}
use Rattle.kb_word.specs.Words.{Pair}
use Rattle.kb_word.specs.declared.memory.Memory.{Memory}
use Rattle.kb_machine.specs.Lines.{numbered, rule_of, rules_of}
use Rattle.kb_machine.specs.declared.line.Line.{Line}
use Rattle.kb_machine.specs.declared.event.Event.TheVariants as events
use Rattle.kb_machine.specs.declared.halt.Halt.{Halt}
use Rattle.kb_machine.specs.States.{State}
use Rattle.kb_machine.specs.Course.{Course, Takes, IsSound}
use Rattle.kb_book.proofs.Lists.{numbered-more}
use Rattle.kb_book.specs.Answers.{MakeSays}
use Rattle.kb_book.specs.declared.answers.Make.{Make}
use Rattle.kb_book.specs.declared.answers.Make.TheVariants as makes
use Rattle.kb_share.proofs.LineSteps.{ages_itself, full_more, thins_ages, has_thins}
use Rattle.kb_share.proofs.SideLemmas.{lefts_from_none, rights_from_none, made_left, made_right}
use Rattle.kb_share.specs.Finding.{IsKeptAt, Knows, KnowsLines, FindsAll}
use Rattle.kb_share.specs.Interreduced.{IsFull, LeftSidesAreReduced, RightSidesAreReduced, RightSidesAreReducedOrFull, StaysReduced}
use Rattle.kb_share.specs.Simplifying.{HasFactorOf, NoneHas, OnlyTheseHave, NoRightHasOrFull, Ages, Thins}
use Rattle.kb_share.specs.declared.finding.Finder.{Finder}
use Rattle.kb_share.specs.declared.finding.Kept.{Kept}
use Rattle.kb_share.specs.declared.finding.Side.{Side}
use Rattle.kb_share.specs.declared.finding.Side.TheVariants.{Left, Right}

-- ---- what a finder knows

kept_at_more : (before after : State) (kept : Kept) (place number : ℕ) → Ages before after → IsKeptAt (rules_of before.lines) kept place number
    → IsKeptAt (rules_of after.lines) kept place number
kept_at_more before after kept place number ages is = record {
  rule = is.rule;
  is_rule =
      subst (λ (rules : List Pair). numbered rules number ≡ Some is.rule)
      (sym (ap rules_of ages.lines ∙ map-append rule_of before.lines ages.made))
      (numbered-more (rules_of before.lines) (rules_of ages.made) number is.rule is.is_rule);
  left = is.left;
  right = is.right;
}

pub knows_ages : (finder : Finder) (before after : State) → Ages before after → Knows finder before → Knows finder after
knows_ages finder before after ages knows =
    let met = knows.met in
    record {
      met = omega (arith, met, ap length ages.lines, length-append before.lines ages.made);
      agrees = record {
        lefts = knows.agrees.lefts;
        rights = knows.agrees.rights;
        each = λ place number at. kept_at_more before after finder.kept place number ages (knows.agrees.each place number at);
      };
      all = λ number live low high. knows.all number (ages.old number live (omega (arith, high, met))) low high;
    }

-- the same lines, of which the same are live
pub knows_same : (finder : Finder) (before after : State) → after.lines ≡ before.lines → after.live ≡ before.live → Knows finder before
    → Knows finder after
knows_same finder before after lines live knows =
    subst (λ (numbers : List ℕ). KnowsLines finder after.lines numbers) (sym live)
    (subst (λ (list : List Line). KnowsLines finder list before.live) (sym lines) knows)

pub knows_thins : (finder : Finder) (before after : Course) → Thins before after → Knows finder before.state
    → Knows finder after.state
knows_thins finder before after thins = knows_ages finder before.state after.state (thins_ages before after thins)

-- ---- what each event keeps

pub stays_itself : (course : Course) → StaysReduced course course
stays_itself course = record { lefts = λ lefts. lefts; rights = λ rights. rights }

pub stays_then : (one two three : Course) → StaysReduced one two → StaysReduced two three → StaysReduced one three
stays_then one two three a b = record {
  lefts = λ lefts. b.lefts (a.lefts lefts);
  rights = λ rights. b.rights (a.rights rights);
}

same_stays : (before after : Course) → after ≡ before → StaysReduced before after
same_stays before after same = subst (λ (c : Course). StaysReduced before c) (sym same) (stays_itself before)

dropped_stays : (before after : Course) → Takes events.Dropped before after → StaysReduced before after
dropped_stays before after takes =
    let s = takes.step in
    record {
      lefts = λ lefts. subst LeftSidesAreReduced (sym s.is) lefts;
      rights = λ rights. elim rights [
        | inl reduced ↦ inl (subst RightSidesAreReduced (sym s.is) reduced)
        | inr full ↦ inr (full_more before after takes.problem (omega (arith, ap (λ (t : State). length t.lines) s.is)) full)
      ];
    }

-- a halt changes neither lines nor live lines
halted_stays : (before after : Course) → Takes events.Halted before after → StaysReduced before after
halted_stays before after takes =
    let s = takes.step in
    record {
      lefts = λ lefts. subst LeftSidesAreReduced (sym s.is) lefts;
      rights = λ rights. elim rights [
        | inl reduced ↦ inl (subst RightSidesAreReduced (sym s.is) reduced)
        | inr full ↦ inr (full_more before after takes.problem (omega (arith, ap (λ (t : State). length t.lines) s.is)) full)
      ];
    }

-- whatever a making answers, but for a line that is made
pub dropped_stays_said : (before after : Course) → MakeSays before after (Ok makes.Dropped) → StaysReduced before after
dropped_stays_said before after says = dropped_stays before after says.takes

pub idle_stays : (before after : Course) → MakeSays before after (Ok makes.Idle) → StaysReduced before after
idle_stays before after says = same_stays before after says.1

pub halted_stays_said : (before after : Course) (halt : Halt) → MakeSays before after (Ok (makes.Halted halt)) → StaysReduced before after
halted_stays_said before after halt (inl says) = halted_stays before after says.takes
halted_stays_said before after halt (inr says) = same_stays before after says.same

same_ages : (before after : Course) → after ≡ before → Ages before.state after.state
same_ages before after same = subst (λ (c : Course). Ages before.state c.state) (sym same) (ages_itself before.state)

dropped_ages : (before after : Course) → Takes events.Dropped before after → Ages before.state after.state
dropped_ages before after takes =
    subst (λ (s : State). Ages before.state s) (sym takes.step.is)
    (record { made = []; lines = sym (append-nil before.state.lines); old = λ k live low. live })

halted_ages : (before after : Course) → Takes events.Halted before after → Ages before.state after.state
halted_ages before after takes =
    subst (λ (s : State). Ages before.state s) (sym takes.step.is)
    (record { made = []; lines = sym (append-nil before.state.lines); old = λ k live low. live })

made_ages : (k : ℕ) (before after : Course) → Takes (events.Made k) before after → Ages before.state after.state
made_ages k before after takes =
    let s = takes.step in
    record {
      made = s.line ∷ [];
      lines = ap (λ (t : State). t.lines) s.is;
      old = λ j live low.
          let is = s.number in
          elim (Contains-push_cases before.state.live k j
          (subst (λ (xs : List ℕ). Contains xs j) (ap (λ (t : State). t.live) s.is) live)) [
            | inl old ↦ old
            | inr same ↦ absurd (omega (arith, is, same, low))
          ];
    }

pub make_ages : (before after : Course) (answer : Result Make Memory) → MakeSays before after answer → Ages before.state after.state
make_ages before after (Ok (makes.Made k)) says = made_ages k before after says.takes
make_ages before after (Ok makes.Dropped) says = dropped_ages before after says.takes
make_ages before after (Ok makes.Idle) says = same_ages before after says.1
make_ages before after (Ok (makes.Halted halt)) (inl says) = halted_ages before after says.takes
make_ages before after (Ok (makes.Halted halt)) (inr says) = same_ages before after says.same
make_ages before after (Err memory) says = same_ages before after says

pub knows_make : (finder : Finder) (before after : Course) (answer : Result Make Memory) → MakeSays before after answer
    → Knows finder before.state → Knows finder after.state
knows_make finder before after answer says = knows_ages finder before.state after.state (make_ages before after answer says)

-- ---- a line is made, and others are simplified by it

-- the lines that were found are all that have a factor
found_these : (side : Side) (state : State) (k : ℕ) (found lines : List ℕ) → FindsAll side state k found → lines ≡ found
    → ((j i : ℕ) → HasFactorOf side state j i → i ≡ k) → OnlyTheseHave side state lines
found_these side state k found lines finds same only j i has =
    let is : i ≡ k = only j i has in
    subst (λ (xs : List ℕ). Contains xs j) (sym same)
    (finds has.other (subst (λ (n : ℕ). numbered (rules_of state.lines) n ≡ Some has.other) is has.is_other) j
    (λ here. has.another (is ∙ sym here))
    (record { is_live = has.is_live; rule = has.one; is_rule = has.is_one; factor = has.factor }))

-- where a line is made, there is room
has_room : (k : ℕ) (before after : Course) → Takes (events.Made k) before after → ¬ IsFull before
has_room k before after takes full = let room = takes.step.room in omega (arith, room, full)

-- and no halt, and none is set
made_runs : (k : ℕ) (before after : Course) → Takes (events.Made k) before after → after.state.halt ≡ None
made_runs k before after takes = let s = takes.step in ap (λ (t : State). t.halt) s.is ∙ s.pending.running

pub simplified_left : (k : ℕ) (start old middle new : Course) (found lines : List ℕ) → Takes (events.Made k) start old
    → FindsAll Left old.state k found → lines ≡ found → (OnlyTheseHave Left old.state lines → NoneHas Left middle.state)
    → (NoneHas Left middle.state → NoneHas Left new.state) → LeftSidesAreReduced start.state → LeftSidesAreReduced new.state
simplified_left k start old middle new found lines takes finds same killed shortened reduced =
    lefts_from_none new.state
    (shortened (killed (found_these Left old.state k found lines finds same
    (made_left start.problem start.state old.state k takes.step reduced))))

pub simplified_right : (k : ℕ) (start old middle new : Course) (found lines : List ℕ) → Takes (events.Made k) start old → Thins old middle
    → FindsAll Right middle.state k found → lines ≡ found
    → (middle.state.halt ≡ None → OnlyTheseHave Right middle.state lines → NoRightHasOrFull new)
    → IsSound new.problem new.state → RightSidesAreReducedOrFull start → RightSidesAreReducedOrFull new
simplified_right k start old middle new found lines takes thins finds same shortened sound (inr full) =
    absurd (has_room k start old takes full)
simplified_right k start old middle new found lines takes thins finds same shortened sound (inl reduced) =
    let only : (j i : ℕ) → HasFactorOf Right middle.state j i → i ≡ k =
    λ j i has. made_right start.problem start.state old.state k takes.step reduced j i (has_thins Right old middle thins j i has) in
    elim (shortened (thins.halt ∙ made_runs k start old takes) (found_these Right middle.state k found lines finds same only)) [
      | inl none ↦ inl (rights_from_none new.problem new.state sound none)
      | inr full ↦ inr full
    ]
