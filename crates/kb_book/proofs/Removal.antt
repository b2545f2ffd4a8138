-- What a line that is taken away leaves.
use Rattle.std.proofs.Common.{◌≡◌, ℕ, suc, ◌<◌, List, [], ◌∷◌, ◌++◌, length, map, take, drop, Some, slice_get, refl, sym, ap, ◌∙◌, arith}
use Rattle.std.specs.List.{remove}
use Rattle.std.proofs.lemmas.List.{length-map}
use Rattle.std.proofs.lemmas.Option.{slice_get_within}
use Rattle.kb_word.specs.Words.{Pair}
use Rattle.kb_machine.specs.Lines.{rules_of}
use Rattle.kb_machine.specs.declared.origin.Origin.{Origin}
use Rattle.kb_machine.specs.declared.origin.Origin.TheVariants as origins
use Rattle.kb_machine.specs.States.{State}
use Rattle.kb_machine.specs.Course.{Course, Takes}
use Rattle.kb_machine.specs.declared.event.Event.{Event}
use Rattle.kb_machine.specs.declared.event.Event.TheVariants.{Killed}
use Rattle.kb_book.specs.Answers.{CanBeKilled}
use Rattle.kb_book.specs.Factors.{IsReplaceable}
use Rattle.kb_book.proofs.Lists.{parts_at, map-remove, contained}

-- the event, where the line may be taken away
pub killed_takes : (before : Course) (k place : ℕ) (live : List ℕ) (pending : List Origin) (versions : List (List ℕ)) (journal : List Event)
    → IsReplaceable (rules_of before.state.lines) before.state.live k place
    → live ≡ remove before.state.live place → pending ≡ before.state.pending ++ origins.Killed k ∷ []
    → versions ≡ before.state.versions → journal ≡ before.journal ++ Killed k ∷ []
    → Takes (Killed k) before
    (record {
      problem = before.problem;
      state = record before.state { live = live; pending = pending; versions = versions };
      journal = journal;
    })
killed_takes before k place live pending versions journal r is_live is_pending are_versions is_journal = record {
  problem = refl;
  journal = is_journal;
  step = record {
    earlier = take place before.state.live;
    later = drop (suc place) before.state.live;
    is_live = parts_at before.state.live place k r.at;
    own = r.own;
    is_own = r.is_own;
    other = r.has.0;
    rule = r.has.3.0;
    another = r.has.2;
    other_is_live = r.has.1;
    is_rule = r.has.3.1;
    factor = r.has.3.2;
    is = cc (is_live, is_pending, are_versions);
  };
}

-- no place, no line to be taken away
pub cannot_be_killed : (state : State) (k : ℕ) → ((place : ℕ) → ¬ IsReplaceable (rules_of state.lines) state.live k place)
    → ¬ CanBeKilled state k
cannot_be_killed state k none can = none can.is_live.0 (record {
  at = contained state.live k can.is_live;
  own = can.own;
  is_own = can.is_own;
  has = (can.other, can.other_is_live, can.another, (can.rule, can.is_rule, can.factor));
})

-- the rules of the live lines without one
pub rules_without : (f : ℕ → Pair) (live live' : List ℕ) (rules rules' : List Pair) (place : ℕ)
    → rules ≡ map f live → rules' ≡ remove rules place → live' ≡ remove live place → rules' ≡ map f live'
rules_without f live live' rules rules' place are removed without =
    removed ∙ ap (λ (l : List Pair). remove l place) are ∙ sym (map-remove f live place) ∙ ap (map f) (sym without)

-- a live number has its rule
pub place_within : (f : ℕ → Pair) (live : List ℕ) (rules : List Pair) (k place : ℕ) → rules ≡ map f live
    → slice_get live place ≡ Some k → place < length rules
place_within f live rules k place are at =
    let within : place < length live = slice_get_within live place k at in omega (arith, ap length are, length-map live f)
