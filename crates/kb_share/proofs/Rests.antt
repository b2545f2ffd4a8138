-- Lines that are looked at one after another, and how much is left to look at.
use Rattle.std.proofs.Common.{◌≡◌, ◌≢◌, ◌⊎◌, ℕ, ◌+◌, ◌≤◌, List, length, get_or, None, Ok, refl, ◌∙◌, subst, inl, inr, arith}
use Rattle.std.specs.List.{Contains}
use Rattle.std.proofs.lemmas.Bool.{cases_eq}
use Rattle.std.proofs.lemmas.List.{get_or_default}
use Rattle.kb_machine.specs.States.{State}
use Rattle.kb_machine.specs.Course.{Course, IsSound}
use Rattle.kb_book.specs.Answers.{KillSays, ShortenSays}
use Rattle.kb_book.specs.declared.answers.Kill.{Kill}
use Rattle.kb_book.specs.declared.answers.Shorten.{Shorten}
use Rattle.kb_share.proofs.LineSteps.{kill_thins, kill_rest, has_thins, thins_itself, thins_then, ages_itself, ages_then, shorten_ages, shorten_full, shorten_halt, shorten_left, shorten_right, HadAnother}
use Rattle.kb_share.proofs.Stages.{goes_on_itself, goes_on_then, kill_goes_on, shorten_goes_on}
use Rattle.kb_share.specs.Interreduced.{IsFull}
use Rattle.kb_share.specs.Simplifying.{NoneHas, OnlyTheseHave, OnlyRestHave, IsListedFrom, KillsRest, ShortensRest, NoRightHasOrFull}
use Rattle.kb_share.specs.declared.finding.Side.{Side}
use Rattle.kb_share.specs.declared.finding.Side.TheVariants.{Left, Right}

-- all are listed from the start on
listed_all : (numbers : List ℕ) (number : ℕ) → Contains numbers number → IsListedFrom numbers 0 number
listed_all numbers number has = record {
  at = has.0;
  late = omega arith;
  within = has.1;
  is = get_or_default numbers has.0 0 number has.1 ∙ has.2;
}

-- a number other than the one at the place is listed after it
listed_rest : (numbers : List ℕ) (place number : ℕ) → IsListedFrom numbers place number → get_or numbers place 0 ≢ number
    → IsListedFrom numbers (place + 1) number
listed_rest numbers place number listed another = elim (cases_eq listed.at place) [
  | inl same ↦ absurd (another (subst (λ (n : ℕ). get_or numbers n 0 ≡ number) same listed.is))
  | inr other ↦ record {
    at = listed.at;
    late = let late = listed.late in omega (arith, late, other);
    within = listed.within;
    is = listed.is;
  }
]

-- none is listed past the end
pub none_left : (side : Side) (state : State) (numbers : List ℕ) (place : ℕ) → length numbers ≤ place
    → OnlyRestHave side state numbers place → NoneHas side state
none_left side state numbers place end rest j k has =
    let listed = rest j k has in
    let late = listed.late in
    let within = listed.within in
    omega (arith, end, late, within)

-- ---- lines are taken away

pub kills_none : (course : Course) (lines : List ℕ) → KillsRest course course lines 0
kills_none course lines = record {
  goes_on = goes_on_itself course;
  thins = thins_itself course;
  lefts = λ only j k has. listed_all lines j (only j k has);
}

pub kills_more : (start before after : Course) (lines : List ℕ) (place : ℕ) (answer : Kill)
    → KillSays (get_or lines place 0) before after (Ok answer) → IsSound before.problem before.state
    → KillsRest start before lines place → KillsRest start after lines (place + 1)
kills_more start before after lines place answer says sound kept =
    let k = get_or lines place 0 in
    let thins = kill_thins k before after (Ok answer) says in
    record {
      goes_on = goes_on_then start before after kept.goes_on (kill_goes_on k before after (Ok answer) says);
      thins = thins_then start before after kept.thins thins;
      lefts = λ only j i has.
          listed_rest lines place j (kept.lefts only j i (has_thins Left before after thins j i has))
          (kill_rest k before after answer says sound j i has);
    }

-- ---- lines are replaced

pub shortens_none : (course : Course) (lines : List ℕ) → ShortensRest course course lines 0
shortens_none course lines = record {
  goes_on = goes_on_itself course;
  ages = ages_itself course.state;
  halt = refl;
  lefts = λ none. none;
  rights = λ runs only. inl (λ j k has. listed_all lines j (only j k has));
}

rights_more : (before after : Course) (lines : List ℕ) (place : ℕ) (answer : Shorten)
    → ShortenSays (get_or lines place 0) before after (Ok answer) → IsSound before.problem before.state
    → before.state.halt ≡ None → OnlyRestHave Right before.state lines place ⊎ IsFull before
    → OnlyRestHave Right after.state lines (place + 1) ⊎ IsFull after
rights_more before after lines place answer says sound runs (inr full) =
    inr (shorten_full (get_or lines place 0) before after (Ok answer) says full)
rights_more before after lines place answer says sound runs (inl rest) =
    let k = get_or lines place 0 in
    elim (shorten_right k before after answer says sound runs) [
      | inl had ↦ inl (λ j i has.
          let old : HadAnother before.state k j = had j i has in
          listed_rest lines place j (rest j old.i old.had) old.another)
      | inr full ↦ inr full
    ]

pub shortens_more : (start before after : Course) (lines : List ℕ) (place : ℕ) (answer : Shorten)
    → ShortenSays (get_or lines place 0) before after (Ok answer) → IsSound before.problem before.state
    → ShortensRest start before lines place → ShortensRest start after lines (place + 1)
shortens_more start before after lines place answer says sound kept =
    let k = get_or lines place 0 in
    record {
      goes_on = goes_on_then start before after kept.goes_on (shorten_goes_on k before after (Ok answer) says);
      ages = ages_then start.state before.state after.state kept.ages (shorten_ages k before after (Ok answer) says);
      halt = shorten_halt k before after (Ok answer) says ∙ kept.halt;
      lefts = λ none. shorten_left k before after (Ok answer) says sound (kept.lefts none);
      rights = λ runs only. rights_more before after lines place answer says sound (kept.halt ∙ runs) (kept.rights runs only);
    }

pub shortens_all : (start after : Course) (lines : List ℕ) (place : ℕ) → length lines ≤ place → ShortensRest start after lines place
    → start.state.halt ≡ None → OnlyTheseHave Right start.state lines → NoRightHasOrFull after
shortens_all start after lines place end kept runs only = elim (kept.rights runs only) [
  | inl rest ↦ inl (none_left Right after.state lines place end rest)
  | inr full ↦ inr full
]
