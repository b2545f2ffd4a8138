-- Origins, where pending ones come and go and become those of lines.
use Rattle.std.proofs.Common.{◌≡◌, ◌⊎◌, ℕ, zero, suc, List, [], ◌∷◌, ◌++◌, Option, Some, None, sym, ap, ◌∙◌, subst, inl, inr, append_assoc}
use Rattle.std.specs.Prelude.{slice_get, map, IfSome}
use Rattle.std.specs.List.{AllPairs, Contains}
use Rattle.std.proofs.lemmas.List.{map-append}
use Rattle.std.proofs.lemmas.List.Elements.{Contains-push_cases}
use Rattle.std.proofs.lemmas.Option.{IfSome_then}
use Rattle.kb_word.specs.Words.{Pair}
use Rattle.kb_machine.specs.Lines.{rules_of, IsPairOf}
use Rattle.kb_machine.specs.declared.line.Line.{Line}
use Rattle.kb_machine.specs.declared.origin.Origin.{Origin}
use Rattle.kb_machine.specs.declared.origin.Origin.TheVariants.{Relation, Overlap, Killed, Shortened}
use Rattle.kb_machine.proofs.Numbers.{Extends, another_factor_extends, pair_same}
use Rattle.kb_machine.specs.States.{Problem, State, IsPendingPair}
use Rattle.kb_machine.specs.Course.{Waits, HaltSays}
use Rattle.kb_machine.specs.declared.halt.Halt.{Halt}
use Rattle.kb_machine.specs.declared.halt.Halt.TheVariants.{Rules, Length}
use Rattle.kb_machine.proofs.Lists.{contains_head, contains_tail, contains_cons_cases, pairs_push}
use Rattle.kb_machine.proofs.Invariant.{AreApart, origins, MayBePending}

-- ---- all of them in one list

-- one more is pending
pub origins_push : (lines : List Line) (pending : List Origin) (origin : Origin)
    → origins lines pending ++ origin ∷ [] ≡ origins lines (pending ++ origin ∷ [])
origins_push lines pending origin = append_assoc (map (λ (line : Line). line.origin) lines) pending (origin ∷ [])

-- a line is added
pub origins_line : (lines : List Line) (line : Line) (pending : List Origin)
    → map (λ (each : Line). each.origin) lines ++ line.origin ∷ pending ≡ origins (lines ++ line ∷ []) pending
origins_line lines line pending =
    let origin_of : Line → Origin = λ each. each.origin in
    sym (append_assoc (map origin_of lines) (line.origin ∷ []) pending)
    ∙ ap (λ front. front ++ pending) (sym (map-append origin_of lines (line ∷ [])))

-- a line's origin is one of them
pub origin_of_line : (lines : List Line) (index : ℕ) (line : Line) → slice_get lines index ≡ Some line
    → Contains (map (λ (each : Line). each.origin) lines) line.origin
origin_of_line [] index line is_line = absurd (cc is_line)
origin_of_line (one ∷ lines) zero line is_line =
    let same : one ≡ line = cc is_line in
    let P : Line → Type 0 = λ other. Contains (map (λ (each : Line). each.origin) (one ∷ lines)) other.origin in
    subst P same (contains_head one.origin (map (λ (each : Line). each.origin) lines))
origin_of_line (one ∷ lines) (suc index) line is_line =
    let origin_of : Line → Origin = λ each. each.origin in
    contains_tail one.origin (map origin_of lines) line.origin (origin_of_line lines index line is_line)

-- ---- the first pending one

module _ (problem : Problem) (state : State) (origin : Origin) (rest : List Origin)
    (pending : state.pending ≡ origin ∷ rest) where
  -- the others are pending too
  pub rest_pending : (other : Origin) → Contains rest other → Contains state.pending other
  rest_pending other has =
      let P : List Origin → Type 0 = λ list. Contains list other in
      subst P (sym pending) (contains_tail origin rest other has)

  -- a pending pair is the first one's, or that of one of the others
  pub pending_cases : (first pair : Pair) → IsPairOf problem.relations (rules_of state.lines) origin first
      → IsPendingPair problem state pair
      → (first ≡ pair)
      ⊎ ((other : Origin) × Contains rest other × IsPairOf problem.relations (rules_of state.lines) other pair)
  pending_cases first pair is_first (other, has, is) =
      let P : List Origin → Type 0 = λ list. Contains list other in
      let Q : Origin → Type 0 = λ one. IsPairOf problem.relations (rules_of state.lines) one first in
      elim (contains_cons_cases origin rest other (subst P pending has)) [
        | inl here ↦
            inl (pair_same problem.relations (rules_of state.lines) other first pair (subst Q here is_first) is)
        | inr later ↦ inr (other, later, is)
      ]

-- ---- one more is pending

pub apart_push : (lines : List Line) (pending : List Origin) (origin : Origin)
    → AllPairs AreApart (origins lines pending)
    → ((other : Origin) → Contains (origins lines pending) other → AreApart other origin)
    → AllPairs AreApart (origins lines (pending ++ origin ∷ []))
apart_push lines pending origin apart from =
    subst (AllPairs AreApart) (origins_push lines pending origin)
    (pairs_push AreApart (origins lines pending) origin apart from)

-- what is pending is pending before, or is what was added
pub origin_push_cases : (lines : List Line) (pending : List Origin) (origin other : Origin)
    → Contains (origins lines (pending ++ origin ∷ [])) other
    → Contains (origins lines pending) other ⊎ (origin ≡ other)
origin_push_cases lines pending origin other has =
    let P : List Origin → Type 0 = λ list. Contains list other in
    Contains-push_cases (origins lines pending) origin other (subst P (sym (origins_push lines pending origin)) has)

pub waiting_push : (rules : List Pair) (pending : List Origin) (origin : Origin)
    → ((other : Origin) → Contains pending other → MayBePending rules other) → MayBePending rules origin
    → (other : Origin) → Contains (pending ++ origin ∷ []) other → MayBePending rules other
waiting_push rules pending origin waiting may other has = elim (Contains-push_cases pending origin other has) [
  | inl before ↦ waiting other before
  | inr same ↦ subst (MayBePending rules) same may
]

pub may_be_pending_extends : (rules more : List Pair) (origin : Origin) → Extends rules more → MayBePending rules origin
    → MayBePending more origin
may_be_pending_extends rules more (Relation k) extends may = may
may_be_pending_extends rules more (Overlap i j place) extends may = may
may_be_pending_extends rules more (Killed k) extends may = another_factor_extends rules more k extends may
may_be_pending_extends rules more (Shortened k) extends may = may

-- ---- halts

-- the first pending origin stays
abbrev pub KeepsFirst : List Origin → List Origin → Type 0
KeepsFirst pending more = (origin : Origin) (rest : List Origin) → pending ≡ origin ∷ rest
    → (longer : List Origin) × (more ≡ origin ∷ longer)

pub keeps_first_push : (pending : List Origin) (last : Origin) → KeepsFirst pending (pending ++ last ∷ [])
keeps_first_push pending last origin rest e = (rest ++ last ∷ [], ap (λ list. list ++ last ∷ []) e)

waits_kept : (problem : Problem) (state : State) (live : List ℕ) (pending : List Origin) (versions : List (List ℕ))
    (halt : Halt)
    → KeepsFirst state.pending pending → Waits problem state halt
    → Waits problem (record state { live = live; pending = pending; versions = versions }) halt
waits_kept problem state live pending versions halt first waits =
    let longer = first waits.origin waits.rest waits.pending in
    let words = waits.apart in
    record {
      origin = waits.origin;
      rest = longer.0;
      pending = longer.1;
      justified = waits.justified;
      apart = record {
        less = words.less;
        congruent = words.congruent;
        u_is_irreducible = words.u_is_irreducible;
        v_is_irreducible = words.v_is_irreducible;
      };
    }

halt_says_kept : (problem : Problem) (state : State) (live : List ℕ) (pending : List Origin)
    (versions : List (List ℕ)) (halt : Halt)
    → KeepsFirst state.pending pending → HaltSays problem state halt
    → HaltSays problem (record state { live = live; pending = pending; versions = versions }) halt
halt_says_kept problem state live pending versions (Rules u v first second) keeps says =
    (says.0, waits_kept problem state live pending versions (Rules u v first second) keeps says.1)
halt_says_kept problem state live pending versions (Length u v first second) keeps says =
    (says.0, says.1, waits_kept problem state live pending versions (Length u v first second) keeps says.2)

-- what a halt says stays true while the lines and the first pending origin do
pub halted_kept : (problem : Problem) (state : State) (live : List ℕ) (pending : List Origin) (versions : List (List ℕ))
    → KeepsFirst state.pending pending → IfSome state.halt (HaltSays problem state)
    → IfSome state.halt (HaltSays problem (record state { live = live; pending = pending; versions = versions }))
halted_kept problem state live pending versions keeps halted =
    IfSome_then state.halt halted (λ halt says. halt_says_kept problem state live pending versions halt keeps says)

-- where it runs there is nothing to say
pub running_halted : (halt : Option Halt) (P : Halt → Type 0) → halt ≡ None → IfSome halt P
running_halted halt P running = let Q : Option Halt → Type 0 = λ one. IfSome one P in subst Q (sym running) tt
