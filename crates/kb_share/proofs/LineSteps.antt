-- What the killing and the shortening of one line do to live lines that have others as factors.
use Rattle.std.proofs.Common.{◌≡◌, ◌≢◌, ◌⊎◌, ℕ, ◌<◌, ◌≤◌, List, [], ◌∷◌, ◌++◌, length, Some, None, Result, Ok, Err, refl, sym, ◌∙◌, ap, subst, inl, inr, arith, append_assoc, length-append}
use Rattle.std.specs.List.{Contains, AllPairs}
use Rattle.std.proofs.lemmas.List.{append-nil}
use Rattle.std.proofs.lemmas.List.Elements.{Contains-push_cases}
use Rattle.kb_word.specs.Words.{Pair, OneOf, IsFactor}
use Rattle.kb_word.specs.Rewriting.{IsIrreducible}
use Rattle.kb_word.specs.declared.memory.Memory.{Memory}
use Rattle.kb_machine.specs.Lines.{numbered, rules_of}
use Rattle.kb_machine.specs.declared.line.Line.{Line}
use Rattle.kb_machine.specs.declared.event.Event.TheVariants as events
use Rattle.kb_machine.specs.States.{Problem, State, live_rules}
use Rattle.kb_machine.specs.Machine.{IsLive}
use Rattle.kb_machine.specs.Course.{Course, Takes, IsSound}
use Rattle.kb_machine.proofs.Lists.{contains_around, ascending_once}
use Rattle.kb_machine.proofs.Numbers.{numbered_same}
use Rattle.kb_book.specs.Answers.{KillSays, ShortenSays, CanBeKilled, CanBeShortened, IsOtherLiveRule, HasNoRoom}
use Rattle.kb_book.specs.declared.answers.Kill.{Kill}
use Rattle.kb_book.specs.declared.answers.Kill.TheVariants as kills
use Rattle.kb_book.specs.declared.answers.Shorten.{Shorten}
use Rattle.kb_book.specs.declared.answers.Shorten.TheVariants as shortens
use Rattle.kb_share.proofs.LiveRules.{one_of_live}
use Rattle.kb_share.proofs.SideLemmas.{no_left_side, Former, former}
use Rattle.kb_share.specs.Interreduced.{IsFull}
use Rattle.kb_share.specs.Simplifying.{HasFactorOf, NoneHas, Ages, Thins}
use Rattle.kb_share.specs.declared.finding.Side.{Side}
use Rattle.kb_share.specs.declared.finding.Side.TheVariants.{Left, Right}

-- ---- room

pub full_more : (before after : Course) → after.problem ≡ before.problem → length before.state.lines ≤ length after.state.lines
    → IsFull before → IsFull after
full_more before after problem lines full = omega (arith, ap (λ (p : Problem). p.most_lines) problem, lines, full)

-- where there is no room and no halt, the log is full
no_room_full : (course : Course) → course.state.halt ≡ None → HasNoRoom course → IsFull course
no_room_full course runs (inl full) = full
no_room_full course runs (inr halted) = absurd (halted runs)

-- ---- a line is taken away

pub thins_itself : (course : Course) → Thins course course
thins_itself course = record { lines = refl; fewer = λ k live. live; halt = refl }

pub thins_then : (one two three : Course) → Thins one two → Thins two three → Thins one three
thins_then one two three a b = record {
  lines = b.lines ∙ a.lines;
  fewer = λ k live. a.fewer k (b.fewer k live);
  halt = b.halt ∙ a.halt;
}

same_thins : (before after : Course) → after ≡ before → Thins before after
same_thins before after same = subst (λ (c : Course). Thins before c) (sym same) (thins_itself before)

killed_thins : (k : ℕ) (before after : Course) → Takes (events.Killed k) before after → Thins before after
killed_thins k before after takes =
    let s = takes.step in
    let lines = ap (λ (t : State). t.lines) s.is in
    record {
      lines = lines;
      fewer = λ j live. subst (λ (xs : List ℕ). Contains xs j) (sym s.is_live) (contains_around s.earlier k s.later j
          (subst (λ (xs : List ℕ). Contains xs j) (ap (λ (t : State). t.live) s.is) live));
      halt = ap (λ (t : State). t.halt) s.is;
    }

pub kill_thins : (k : ℕ) (before after : Course) (answer : Result Kill Memory) → KillSays k before after answer → Thins before after
kill_thins k before after (Ok kills.Killed) says = killed_thins k before after says
kill_thins k before after (Ok kills.Stays) says = same_thins before after says.0
kill_thins k before after (Err memory) says = same_thins before after says

pub has_thins : (side : Side) (before after : Course) → Thins before after → (j k : ℕ) → HasFactorOf side after.state j k
    → HasFactorOf side before.state j k
has_thins side before after thins j k has = record {
  is_live = thins.fewer j has.is_live;
  one = has.one;
  is_one = subst (λ (xs : List Line). numbered (rules_of xs) j ≡ Some has.one) thins.lines has.is_one;
  other_is_live = thins.fewer k has.other_is_live;
  other = has.other;
  is_other = subst (λ (xs : List Line). numbered (rules_of xs) k ≡ Some has.other) thins.lines has.is_other;
  another = has.another;
  factor = has.factor;
}

can_be_killed : (state : State) (j k : ℕ) → HasFactorOf Left state j k → CanBeKilled state j
can_be_killed state j k has = record {
  is_live = has.is_live;
  own = has.one;
  is_own = has.is_one;
  other = k;
  rule = has.other;
  another = has.another;
  other_is_live = has.other_is_live;
  is_rule = has.is_other;
  factor = has.factor;
}

-- after line k was looked at, it has no other left side as a factor
pub kill_rest : (k : ℕ) (before after : Course) (answer : Kill) → KillSays k before after (Ok answer)
    → IsSound before.problem before.state → (j i : ℕ) → HasFactorOf Left after.state j i → k ≢ j
kill_rest k before after kills.Killed says sound j i has = λ same.
    let s = says.step in
    let ascending = subst (λ (xs : List ℕ). AllPairs (λ one other. one < other) xs) s.is_live sound.ascending in
    let around : Contains (s.earlier ++ s.later) j =
    subst (λ (xs : List ℕ). Contains xs j) (ap (λ (t : State). t.live) s.is) has.is_live in
    ascending_once s.earlier k s.later ascending (subst (λ (n : ℕ). Contains (s.earlier ++ s.later) n) (sym same) around)
kill_rest k before after kills.Stays says sound j i has = λ same.
    let old : HasFactorOf Left before.state j i = subst (λ (c : Course). HasFactorOf Left c.state j i) says.0 has in
    says.1 (subst (λ (n : ℕ). CanBeKilled before.state n) (sym same) (can_be_killed before.state j i old))

-- ---- a line is replaced

pub ages_itself : (state : State) → Ages state state
ages_itself state = record { made = []; lines = sym (append-nil state.lines); old = λ k live low. live }

pub ages_then : (one two three : State) → Ages one two → Ages two three → Ages one three
ages_then one two three a b = record {
  made = a.made ++ b.made;
  lines = b.lines ∙ ap (λ (xs : List Line). xs ++ b.made) a.lines ∙ append_assoc one.lines a.made b.made;
  old = λ k live low.
      let more = length-append one.lines a.made in
      let is = ap length a.lines in
      a.old k (b.old k live (omega (arith, low, more, is))) low;
}

pub thins_ages : (before after : Course) → Thins before after → Ages before.state after.state
thins_ages before after thins = record {
  made = [];
  lines = thins.lines ∙ sym (append-nil before.state.lines);
  old = λ k live low. thins.fewer k live;
}

same_ages : (before after : Course) → after ≡ before → Ages before.state after.state
same_ages before after same = subst (λ (c : Course). Ages before.state c.state) (sym same) (ages_itself before.state)

shortened_ages : (k new : ℕ) (before after : Course) → Takes (events.Shortened k new) before after → Ages before.state after.state
shortened_ages k new before after takes =
    let s = takes.step in
    record {
      made = s.line ∷ [];
      lines = ap (λ (t : State). t.lines) s.is;
      old = λ j live low.
          let is = s.number in
          elim (Contains-push_cases (s.earlier ++ s.later) new j
          (subst (λ (xs : List ℕ). Contains xs j) (ap (λ (t : State). t.live) s.is) live)) [
            | inl around ↦ subst (λ (xs : List ℕ). Contains xs j) (sym s.is_live) (contains_around s.earlier k s.later j around)
            | inr same ↦ absurd (omega (arith, is, same, low))
          ];
    }

pub shorten_ages : (k : ℕ) (before after : Course) (answer : Result Shorten Memory) → ShortenSays k before after answer
    → Ages before.state after.state
shorten_ages k before after (Ok (shortens.Shortened new)) says = shortened_ages k new before after says.takes
shorten_ages k before after (Ok shortens.Least) says = same_ages before after says.0
shorten_ages k before after (Ok shortens.NoRoom) says = same_ages before after says.0
shorten_ages k before after (Err memory) says = same_ages before after says

same_full : (before after : Course) → after ≡ before → IsFull before → IsFull after
same_full before after same full = subst (λ (c : Course). IsFull c) (sym same) full

pub shorten_full : (k : ℕ) (before after : Course) (answer : Result Shorten Memory) → ShortenSays k before after answer
    → IsFull before → IsFull after
shorten_full k before after (Ok (shortens.Shortened new)) says =
    let s = says.takes.step in
    full_more before after says.takes.problem
    (omega (arith, ap (λ (t : State). length t.lines) s.is, length-append before.state.lines (s.line ∷ [])))
shorten_full k before after (Ok shortens.Least) says = same_full before after says.0
shorten_full k before after (Ok shortens.NoRoom) says = same_full before after says.0
shorten_full k before after (Err memory) says = same_full before after says

same_halt : (before after : Course) → after ≡ before → after.state.halt ≡ before.state.halt
same_halt before after same = ap (λ (c : Course). c.state.halt) same

-- a shortening sets no halt
pub shorten_halt : (k : ℕ) (before after : Course) (answer : Result Shorten Memory) → ShortenSays k before after answer
    → after.state.halt ≡ before.state.halt
shorten_halt k before after (Ok (shortens.Shortened new)) says = ap (λ (t : State). t.halt) says.takes.step.is
shorten_halt k before after (Ok shortens.Least) says = same_halt before after says.0
shorten_halt k before after (Ok shortens.NoRoom) says = same_halt before after says.0
shorten_halt k before after (Err memory) says = same_halt before after says

-- different lines were different before
differ : (before : State) (x new i j : ℕ) (one other : Pair) → i ≢ j
    → (a : Former before x new i one) (b : Former before x new j other)
    → ((i ≡ new) × (a.was ≡ x)) ⊎ ((i ≡ a.was) × (x ≢ a.was) × (a.old ≡ one) × (i ≢ new))
    → ((j ≡ new) × (b.was ≡ x)) ⊎ ((j ≡ b.was) × (x ≢ b.was) × (b.old ≡ other) × (j ≢ new)) → a.was ≢ b.was
differ before x new i j one other another a b (inl first) (inl second) = λ same. another (first.0 ∙ sym second.0)
differ before x new i j one other another a b (inl first) (inr second) = λ same. second.1 (sym first.1 ∙ same)
differ before x new i j one other another a b (inr first) (inl second) = λ same. first.1 (sym second.1 ∙ sym same)
differ before x new i j one other another a b (inr first) (inr second) = λ same. another (first.0 ∙ same ∙ sym second.0)

shortened_left : (k new : ℕ) (before after : Course) → Takes (events.Shortened k new) before after
    → IsSound before.problem before.state → NoneHas Left before.state → NoneHas Left after.state
shortened_left k new before after takes sound none j i has =
    let a = former before.problem before.state after.state k new takes.step sound j has.one has.is_live has.is_one in
    let b = former before.problem before.state after.state k new takes.step sound i has.other has.other_is_live has.is_other in
    none a.was b.was (record {
      is_live = a.is_live;
      one = a.old;
      is_one = a.is_old;
      other_is_live = b.is_live;
      other = b.old;
      is_other = b.is_old;
      another = differ before.state k new i j has.other has.one has.another b a b.which a.which;
      factor = subst (λ (w : List ℕ). IsFactor w b.old.0) (sym a.left)
          (subst (λ (v : List ℕ). IsFactor has.one.0 v) (sym b.left) has.factor);
    })

pub shorten_left : (k : ℕ) (before after : Course) (answer : Result Shorten Memory) → ShortenSays k before after answer
    → IsSound before.problem before.state → NoneHas Left before.state → NoneHas Left after.state
shorten_left k before after (Ok (shortens.Shortened new)) says sound none = shortened_left k new before after says.takes sound none
shorten_left k before after (Ok shortens.Least) says sound none = subst (λ (c : Course). NoneHas Left c.state) (sym says.0) none
shorten_left k before after (Ok shortens.NoRoom) says sound none = subst (λ (c : Course). NoneHas Left c.state) (sym says.0) none
shorten_left k before after (Err memory) says sound none = subst (λ (c : Course). NoneHas Left c.state) (sym says) none

-- a line that has a left side as a factor on the right, and had one before
pub record HadAnother (before : State) (k j : ℕ) : Type 0 where
  pub another : k ≢ j
  pub i : ℕ
  pub had : HasFactorOf Right before j i

can_be_shortened : (state : State) (j i : ℕ) → HasFactorOf Right state j i → CanBeShortened state j
can_be_shortened state j i has = record {
  is_live = has.is_live;
  own = has.one;
  is_own = has.is_one;
  reducible = λ irreducible.
      no_left_side (IsOtherLiveRule state j) has.one.1 has.other irreducible (i, has.other_is_live, has.another, has.is_other) has.factor;
}

-- after line k was looked at, where there was no halt, no left side is a factor of its right side, or the log is full
pub shorten_right : (k : ℕ) (before after : Course) (answer : Shorten) → ShortenSays k before after (Ok answer)
    → IsSound before.problem before.state → before.state.halt ≡ None
    → ((j i : ℕ) → HasFactorOf Right after.state j i → HadAnother before.state k j) ⊎ IsFull after
shorten_right k before after (shortens.Shortened new) says sound runs = inl (λ j i has.
    let s = says.takes.step in
    let a = former before.problem before.state after.state k new s sound j has.one has.is_live has.is_one in
    let b = former before.problem before.state after.state k new s sound i has.other has.other_is_live has.is_other in
    let factor : IsFactor has.one.1 b.old.0 = subst (λ (v : List ℕ). IsFactor has.one.1 v) (sym b.left) has.factor in
    let apart = differ before.state k new i j has.other has.one has.another b a b.which a.which in
    elim a.which [
      | inl made ↦
          let at : numbered (rules_of after.state.lines) new ≡ Some has.one =
          subst (λ (n : ℕ). numbered (rules_of after.state.lines) n ≡ Some has.one) made.0 has.is_one in
          let same : says.rule ≡ has.one = numbered_same (rules_of after.state.lines) new says.rule has.one says.is_rule at in
          let irreducible : IsIrreducible (OneOf (live_rules before.state)) has.one.1 =
          subst (λ (r : Pair). IsIrreducible (OneOf (live_rules before.state)) r.1) same says.normal.irreducible in
          absurd (no_left_side (OneOf (live_rules before.state)) has.one.1 b.old irreducible
          (one_of_live before.problem before.state sound b.old (b.was, b.is_live, b.is_old)) factor)
      | inr kept ↦ record {
        another = subst (λ (n : ℕ). k ≢ n) (sym kept.0) kept.1;
        i = b.was;
        had = record {
          is_live = subst (λ (n : ℕ). IsLive before.state n) (sym kept.0) a.is_live;
          one = has.one;
          is_one = subst (λ (n : ℕ). numbered (rules_of before.state.lines) n ≡ Some has.one) (sym kept.0)
              (a.is_old ∙ ap (λ (r : Pair). Some r) kept.2);
          other_is_live = b.is_live;
          other = b.old;
          is_other = b.is_old;
          another = subst (λ (n : ℕ). b.was ≢ n) (sym kept.0) apart;
          factor = factor;
        };
      }
    ])
shorten_right k before after shortens.Least says sound runs = inl (λ j i has.
    let old : HasFactorOf Right before.state j i = subst (λ (c : Course). HasFactorOf Right c.state j i) says.0 has in
    record {
      another = λ same. says.1 (subst (λ (n : ℕ). CanBeShortened before.state n) (sym same) (can_be_shortened before.state j i old));
      i = i;
      had = old;
    })
shorten_right k before after shortens.NoRoom says sound runs = inr (same_full before after says.0 (no_room_full before runs says.2))
