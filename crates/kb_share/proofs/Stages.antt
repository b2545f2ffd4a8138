-- What each event does to the stage of a completion, and to the work that is left.
use Rattle.std.proofs.Common.{◌≡◌, ℕ, suc, ◌+◌, ◌-◌, ◌*◌, ◌<◌, ◌≤◌, List, [], ◌∷◌, ◌++◌, length, Result, Ok, Err, refl, sym, ◌∙◌, ap, subst, inl, inr, append_assoc, arith, length-append}
use Rattle.std.proofs.lemmas.List.{append-nil}
use Rattle.std.proofs.Math.Nat.{zero-add}
use Rattle.kb_word.specs.declared.memory.Memory.{Memory}
use Rattle.kb_machine.specs.declared.line.Line.{Line}
use Rattle.kb_machine.specs.States.{Problem, State}
use Rattle.kb_machine.specs.Course.{Course, Takes}
use Rattle.kb_machine.specs.declared.event.Event.TheVariants as events
use Rattle.kb_machine.specs.declared.halt.Halt.{Halt}
use Rattle.kb_book.specs.Answers.{MakeSays, KillSays, ShortenSays}
use Rattle.kb_book.specs.declared.answers.Make.{Make}
use Rattle.kb_book.specs.declared.answers.Make.TheVariants as makes
use Rattle.kb_book.specs.declared.answers.Kill.{Kill}
use Rattle.kb_book.specs.declared.answers.Kill.TheVariants as kills
use Rattle.kb_book.specs.declared.answers.Shorten.{Shorten}
use Rattle.kb_book.specs.declared.answers.Shorten.TheVariants as shortens
use Rattle.kb_machine.specs.declared.event.Event.{Event}
use Rattle.kb_share.specs.Later.{IsLater, entries}
use Rattle.kb_share.specs.Settling.{Settles, GivesHalt}
use Rattle.kb_share.specs.Work.{GoesOn, GoesOnBy, work}

pub later_itself : (course : Course) → IsLater course course
later_itself course = record { problem = refl; made = []; lines = sym (append-nil course.state.lines) }

pub later_then : (one two three : Course) → IsLater one two → IsLater two three → IsLater one three
later_then one two three a b = record {
  problem = b.problem ∙ a.problem;
  made = a.made ++ b.made;
  lines = b.lines ∙ ap (λ (xs : List Line). xs ++ b.made) a.lines ∙ append_assoc one.state.lines a.made b.made;
}

pub settles_itself : (course : Course) → Settles course course
settles_itself course = record { later = later_itself course; versions = refl }

pub settles_then : (one two three : Course) → Settles one two → Settles two three → Settles one three
settles_then one two three a b =
    record {
      later = later_then one two three a.later b.later;
      versions = b.versions ∙ a.versions;
    }

pub goes_on_itself : (course : Course) → GoesOn course course
goes_on_itself course = record { settles = settles_itself course; less = omega arith }

pub goes_on_then : (one two three : Course) → GoesOn one two → GoesOn two three → GoesOn one three
goes_on_then one two three a b =
    let first : work two ≤ work one = a.less in
    let second : work three ≤ work two = b.less in
    record { settles = settles_then one two three a.settles b.settles; less = at_most_then (work one) (work two) (work three) first second }
  where
    at_most_then : (a b c : ℕ) → b ≤ a → c ≤ b → c ≤ a
    at_most_then a b c first second = omega (arith, first, second)

same_goes_on : (before after : Course) → after ≡ before → GoesOn before after
same_goes_on before after same = subst (λ (c : Course). GoesOn before c) (sym same) (goes_on_itself before)

one_more : (a b c : ℕ) → c ≡ a + b → suc c ≡ suc a + b
one_more a b c e = omega (arith, e)

-- the entries of two journals, one after the other
pub entries-append : (earlier later : List Event) → entries (earlier ++ later) ≡ entries earlier + entries later
entries-append [] later = sym (zero-add (entries later))
entries-append (events.Entered worker place first second ∷ earlier) later =
    one_more (entries earlier) (entries later) (entries (earlier ++ later)) (entries-append earlier later)
entries-append (events.Balanced place first second ∷ earlier) later = entries-append earlier later
entries-append (events.Dropped ∷ earlier) later = entries-append earlier later
entries-append (events.Made k ∷ earlier) later = entries-append earlier later
entries-append (events.Halted ∷ earlier) later = entries-append earlier later
entries-append (events.Killed k ∷ earlier) later = entries-append earlier later
entries-append (events.Shortened line new ∷ earlier) later = entries-append earlier later
entries-append (events.Published ∷ earlier) later = entries-append earlier later

-- with the same lines
same_lines : (event : Event) (before after : Course) → Takes event before after
    → after.state.lines ≡ before.state.lines → after.state.versions ≡ before.state.versions → Settles before after
same_lines event before after takes lines versions = record {
  later = record { problem = takes.problem; made = []; lines = lines ∙ sym (append-nil before.state.lines) };
  versions = versions;
}

-- with one line more
one_line : (event : Event) (before after : Course) (line : Line) → Takes event before after
    → after.state.lines ≡ before.state.lines ++ line ∷ [] → after.state.versions ≡ before.state.versions → Settles before after
one_line event before after line takes lines versions = record {
  later = record { problem = takes.problem; made = line ∷ []; lines = lines };
  versions = versions;
}

killed_work : (m n a p m' n' a' p' : ℕ) → m' ≡ m → n' ≡ n → a' + 1 ≡ a → p' ≡ p + 1
    → 4 * (m' - n') + a' + p' ≤ 4 * (m - n) + a + p
killed_work m n a p m' n' a' p' em en ea ep = omega (arith, em, en, ea, ep)

shortened_work : (m n a p m' n' a' p' : ℕ) → m' ≡ m → n' ≡ n + 1 → a' ≡ a → p' ≡ p
    → 4 * (m' - n') + a' + p' ≤ 4 * (m - n) + a + p
shortened_work m n a p m' n' a' p' em en ea ep = omega (arith, em, en, ea, ep)

made_work : (m n a p m' n' a' p' : ℕ) → m' ≡ m → n < m → n' ≡ n + 1 → a' ≡ a + 1 → p ≡ p' + 1
    → 4 * (m' - n') + a' + p' + 4 ≤ 4 * (m - n) + a + p
made_work m n a p m' n' a' p' em room en ea ep = omega (arith, em, room, en, ea, ep)

dropped_work : (m n a p m' n' a' p' : ℕ) → m' ≡ m → n' ≡ n → a' ≡ a → p ≡ p' + 1
    → 4 * (m' - n') + a' + p' < 4 * (m - n) + a + p
dropped_work m n a p m' n' a' p' em en ea ep = omega (arith, em, en, ea, ep)

length_more : {X : Type 0} (xs : List X) (x : X) → length (xs ++ x ∷ []) ≡ length xs + 1
length_more xs x = length-append xs (x ∷ [])

length_without : {X : Type 0} (earlier later : List X) (x : X) → length (earlier ++ later) + 1 ≡ length (earlier ++ x ∷ later)
length_without earlier later x = omega (arith, length-append earlier later, length-append earlier (x ∷ later))

length_moved : {X : Type 0} (earlier later : List X) (x y : X) → length (earlier ++ later ++ y ∷ []) ≡ length (earlier ++ x ∷ later)
length_moved earlier later x y =
    omega (
      arith,
      length-append earlier later,
      length-append (earlier ++ later) (y ∷ []),
      length-append earlier (later ++ y ∷ []),
      length-append later (y ∷ []),
      length-append earlier (x ∷ later),
    )

kill_taken : (k : ℕ) (before after : Course) → Takes (events.Killed k) before after → GoesOn before after
kill_taken k before after takes =
    let s = takes.step in
    let lines = ap (λ (t : State). t.lines) s.is in
    let live = ap (λ (t : State). t.live) s.is in
    let pending = ap (λ (t : State). t.pending) s.is in
    record {
      settles = same_lines (events.Killed k) before after takes lines (ap (λ (t : State). t.versions) s.is);
      less = killed_work before.problem.most_lines (length before.state.lines) (length before.state.live) (length before.state.pending)
          after.problem.most_lines (length after.state.lines) (length after.state.live) (length after.state.pending)
          (ap (λ (p : Problem). p.most_lines) takes.problem) (ap length lines)
          (ap (λ xs. length xs + 1) live ∙ length_without s.earlier s.later k ∙ sym (ap length s.is_live))
          (ap length pending ∙ length_more before.state.pending _);
    }

shorten_taken : (k new : ℕ) (before after : Course) → Takes (events.Shortened k new) before after → GoesOn before after
shorten_taken k new before after takes =
    let s = takes.step in
    let lines = ap (λ (t : State). t.lines) s.is in
    let live = ap (λ (t : State). t.live) s.is in
    let pending = ap (λ (t : State). t.pending) s.is in
    record {
      settles = one_line (events.Shortened k new) before after s.line takes lines (ap (λ (t : State). t.versions) s.is);
      less = shortened_work before.problem.most_lines (length before.state.lines) (length before.state.live) (length before.state.pending)
          after.problem.most_lines (length after.state.lines) (length after.state.live) (length after.state.pending)
          (ap (λ (p : Problem). p.most_lines) takes.problem) (ap length lines ∙ length_more before.state.lines s.line)
          (ap length live ∙ length_moved s.earlier s.later k new ∙ sym (ap length s.is_live))
          (ap length pending);
    }

-- whatever a kill answers
pub kill_goes_on : (k : ℕ) (before after : Course) (answer : Result Kill Memory) → KillSays k before after answer → GoesOn before after
kill_goes_on k before after (Ok kills.Killed) says = kill_taken k before after says
kill_goes_on k before after (Ok kills.Stays) says = same_goes_on before after says.0
kill_goes_on k before after (Err memory) says = same_goes_on before after says

-- whatever a shortening answers
pub shorten_goes_on : (k : ℕ) (before after : Course) (answer : Result Shorten Memory) → ShortenSays k before after answer
    → GoesOn before after
shorten_goes_on k before after (Ok (shortens.Shortened new)) says = shorten_taken k new before after says.takes
shorten_goes_on k before after (Ok shortens.Least) says = same_goes_on before after says.0
shorten_goes_on k before after (Ok shortens.NoRoom) says = same_goes_on before after says.0
shorten_goes_on k before after (Err memory) says = same_goes_on before after says

-- a line is made
pub made_settles : (k : ℕ) (before after : Course) → Takes (events.Made k) before after → Settles before after
made_settles k before after takes =
    let s = takes.step in
    one_line (events.Made k) before after s.line takes (ap (λ (t : State). t.lines) s.is) (ap (λ (t : State). t.versions) s.is)

-- and leaves four less work
pub made_falls : (k : ℕ) (before after : Course) → Takes (events.Made k) before after → work after + 4 ≤ work before
made_falls k before after takes =
    let s = takes.step in
    let lines = ap (λ (t : State). t.lines) s.is in
    let live = ap (λ (t : State). t.live) s.is in
    let pending = ap (λ (t : State). t.pending) s.is in
    made_work before.problem.most_lines (length before.state.lines) (length before.state.live) (length before.state.pending)
    after.problem.most_lines (length after.state.lines) (length after.state.live) (length after.state.pending)
    (ap (λ (p : Problem). p.most_lines) takes.problem) s.room (ap length lines ∙ length_more before.state.lines s.line)
    (ap length live ∙ length_more before.state.live k)
    (let first = ap length s.pending.is in let rest = ap length pending in first_rest (length before.state.pending) (length s.rest) (length after.state.pending) first rest)
  where
    first_rest : (p r p' : ℕ) → p ≡ suc r → p' ≡ r → p ≡ p' + 1
    first_rest p r p' first rest = omega (arith, first, rest)

-- a pair is dropped
pub dropped_settles : (before after : Course) → Takes events.Dropped before after → Settles before after
dropped_settles before after takes =
    let s = takes.step in
    same_lines events.Dropped before after takes (ap (λ (t : State). t.lines) s.is) (ap (λ (t : State). t.versions) s.is)

pub dropped_falls : (before after : Course) → Takes events.Dropped before after → work after < work before
dropped_falls before after takes =
    let s = takes.step in
    let lines = ap (λ (t : State). t.lines) s.is in
    let live = ap (λ (t : State). t.live) s.is in
    let pending = ap (λ (t : State). t.pending) s.is in
    dropped_work before.problem.most_lines (length before.state.lines) (length before.state.live) (length before.state.pending)
    after.problem.most_lines (length after.state.lines) (length after.state.live) (length after.state.pending)
    (ap (λ (p : Problem). p.most_lines) takes.problem) (ap length lines) (ap length live)
    (let first = ap length s.pending.is in let rest = ap length pending in first_rest (length before.state.pending) (length s.rest) (length after.state.pending) first rest)
  where
    first_rest : (p r p' : ℕ) → p ≡ suc r → p' ≡ r → p ≡ p' + 1
    first_rest p r p' first rest = omega (arith, first, rest)

halted_settles : (before after : Course) → Takes events.Halted before after → Settles before after
halted_settles before after takes =
    let s = takes.step in
    same_lines events.Halted before after takes (ap (λ (t : State). t.lines) s.is) (ap (λ (t : State). t.versions) s.is)

same_settles : (before after : Course) → after ≡ before → Settles before after
same_settles before after same = subst (λ (c : Course). Settles before c) (sym same) (settles_itself before)

-- whatever a making answers
pub make_settles : (before after : Course) (answer : Result Make Memory) → MakeSays before after answer → Settles before after
make_settles before after (Ok (makes.Made k)) says = made_settles k before after says.takes
make_settles before after (Ok makes.Dropped) says = dropped_settles before after says.takes
make_settles before after (Ok makes.Idle) says = same_settles before after says.1
make_settles before after (Ok (makes.Halted halt)) (inl says) = halted_settles before after says.takes
make_settles before after (Ok (makes.Halted halt)) (inr says) = same_settles before after says.same
make_settles before after (Err memory) says = same_settles before after says

-- the halt that is answered
pub halt_given : (before after : Course) (halt : Halt) → MakeSays before after (Ok (makes.Halted halt)) → GivesHalt after halt
halt_given before after halt (inl says) = record { own = says.own; is = says.is; copied = says.copied }
halt_given before after halt (inr says) = record {
  own = says.own;
  is = ap (λ (c : Course). c.state.halt) says.same ∙ says.is;
  copied = says.copied;
}

-- what a making answers, by the answer that it gave
pub make_said : (before after : Course) (given answer : Make) → given ≡ answer → MakeSays before after (Ok given)
    → MakeSays before after (Ok answer)
make_said before after given answer same says = subst (λ (m : Make). MakeSays before after (Ok m)) same says

-- what is done after a line is made, with two pairs more than its own, leaves less work than there was
pub made_then_falls : (k : ℕ) (before middle after : Course) → Takes (events.Made k) before middle → GoesOnBy 2 middle after
    → work after < work before
made_then_falls k before middle after takes goes =
    let first : work middle + 4 ≤ work before = made_falls k before middle takes in
    let second : work after ≤ work middle + 2 = goes.most in
    less_then (work before) (work middle) (work after) first second
  where
    less_then : (a b c : ℕ) → b + 4 ≤ a → c ≤ b + 2 → c < a
    less_then a b c first second = omega (arith, first, second)

-- a line was made, and more may have been made since
pub made_more : (k : ℕ) (before middle after : Course) → Takes (events.Made k) before middle → IsLater middle after
    → length before.state.lines < length after.state.lines
made_more k before middle after takes later =
    let s = takes.step in
    let one : length middle.state.lines ≡ length before.state.lines + 1 =
    ap (λ (t : State). length t.lines) s.is ∙ length_more before.state.lines s.line in
    let more : length after.state.lines ≡ length middle.state.lines + length later.made =
    ap length later.lines ∙ length-append middle.state.lines later.made in
    omega (arith, one, more)
