-- The machine reads pairs alone, since the automaton does.
use Rattle.std.specs.Prelude.{◌≡◌, ◌≢◌, ℕ, zero, suc, ◌≤◌, Bool, true, false, IsSome, List, [], ◌∷◌, Option, Some, None}
use Rattle.std.proofs.Common.{refl, sym, ap, ◌∙◌, subst, inl, inr}
use Rattle.std.specs.List.{Contains}
use Rattle.std.proofs.lemmas.Bool.{false≢true}
use Rattle.kb_fsa.specs.declared.alphabet.Alphabet.TheVariants.{Pair}
use Rattle.kb_fsa.specs.Table.{Table, IsTable, after, moves_of, state_after, step}
use Rattle.kb_fsa.specs.PairSymbols.{first_letter, second_letter}
use Rattle.kb_fsa.specs.EndedWords.{ended_by}
use Rattle.kb_fsa.specs.declared.ended.Ended.TheVariants.{Neither}
use Rattle.kb_fsa.proofs.PaddedRuns.{text_of_run}
use Rattle.kb_fsadet.proofs.Sets.{Contains-cons_cases, Contains-none}
use Rattle.kb_branching.specs.Branching.{LeadsFrom, ReadsAlphabet}
use Rattle.kb_certificates.specs.declared.later_pairs.relation.Relation.{Relation}
use Rattle.kb_certificates.specs.declared.later_pairs.relation.Relation.TheVariants.{Same}
use Rattle.kb_certificates.specs.declared.later_pairs.rivals.Rivals.{Rivals}
use Rattle.kb_certificates.specs.Rivalry.{moves_by, rivalry, rivals_by, starts_at, with_rival}
use Rattle.kb_certificates.specs.Containing.{contains_flat_map, contains_map, step_of_move}

is_zero : ℕ → Bool
is_zero zero = true
is_zero (suc n) = false

suc_some : (n : ℕ) → suc n ≢ 0
unfolding is_zero
suc_some n none = false≢true (ap is_zero none)

-- where the rival may be after the symbol
abbrev pub rivals_after : ℕ → Table → Rivals → ℕ → List (ℕ × Relation)
rivals_after n table rivals symbol = rivals_by n table rivals.rival rivals.relation
    (first_letter n symbol) (second_letter n symbol)

-- a move goes on with the pair, and with a rival
pub record GoesOn (n : ℕ) (table : Table) (rivals : Rivals) (symbol : ℕ)
    (next : Rivals) : Type 0 where
  pub own : step table rivals.own symbol ≡ next.own
  pub some : next.own ≢ 0
  pub rival : Contains (rivals_after n table rivals symbol) (next.rival, next.relation)

pub from_move : (n : ℕ) (table : Table) → IsTable table → (rivals : Rivals) (symbol : ℕ)
    (next : Rivals)
    → Contains ((rivalry n table).moves rivals) (symbol, next) → GoesOn n table rivals symbol next
from_move n table is rivals symbol next at =
    let of_own = contains_flat_map (moves_by n table rivals) (moves_of table rivals.own)
    (symbol, next) at in
    let move = of_own.0 in
    let of_rival = contains_map (with_rival move.0 move.1)
    (rivals_after n table rivals move.0) (symbol, next) of_own.1.1 in
    let found = step_of_move table is rivals.own move.0 move.1 of_own.1.0 in
    let same_symbol : move.0 ≡ symbol = ap (λ (m : ℕ × Rivals). m.0) of_rival.1.1 in
    let same_own : move.1 ≡ next.own = ap (λ (m : ℕ × Rivals). m.1.own) of_rival.1.1 in
    let same_rival : of_rival.0 ≡ (next.rival, next.relation) =
    ap (λ (m : ℕ × Rivals). (m.1.rival, m.1.relation)) of_rival.1.1 in
    let P : ℕ → Type 0 = λ s. Contains (rivals_after n table rivals s) of_rival.0 in
    let Q : ℕ × Relation → Type 0 = λ one. Contains (rivals_after n table rivals symbol) one in
    record {
      own = ap (step table rivals.own) (sym same_symbol) ∙ found.0 ∙ same_own;
      some = λ none. found.1.1 (same_own ∙ none);
      rival = subst Q same_rival (subst P same_symbol of_rival.1.0);
    }

pub from_start : (state : ℕ) (start : Rivals) → Contains (starts_at state) start
    → (start ≡ record { own = state; rival = state; relation = Same }) × (state ≢ 0)
from_start zero start at = absurd (Contains-none start at)
from_start (suc state) start at =
    elim (Contains-cons_cases
    (record { own = suc state; rival = suc state; relation = Same }) [] start at) [
      | inl is ↦ (sym is, suc_some state)
      | inr there ↦ absurd (Contains-none start there)
    ]

-- along a text the pair's own state is the automaton's
pub own_run : (n : ℕ) (table : Table) → IsTable table → (text : List ℕ) (from to : Rivals)
    → LeadsFrom (rivalry n table) from text to
    → from.own ≢ 0 → (after table from.own text ≡ to.own) × (to.own ≢ 0)
own_run n table is [] from to leads some =
    let same : from.own ≡ to.own = ap (λ (r : Rivals). r.own) leads in
    (same, λ none. some (same ∙ none))
own_run n table is (symbol ∷ text) from to leads some =
    let on = from_move n table is from symbol leads.0 leads.1 in
    let rest = own_run n table is text leads.0 to leads.2 on.some in
    (ap (λ s. after table s text) on.own ∙ rest.0, rest.1)

-- an automaton of pairs: along each text that leads somewhere it can be said which word has ended
pub record ReadsPairs (n : ℕ) (table : Table) : Type 0 where
  pub generators : n ≤ 65534
  pub is_table : IsTable table
  pub texts : (text : List ℕ) → state_after table text ≢ 0
      → IsSome (ended_by (Pair n) (Some Neither) text)

is_there : {X : Type 0} (o : Option X) → IsSome o → (x : X) × (o ≡ Some x)
is_there None some = absurd (false≢true some)
is_there (Some x) some = (x, refl)

pub reads_pairs : (n : ℕ) (table : Table) → ReadsPairs n table → ReadsAlphabet (rivalry n table)
reads_pairs n table is = record {
  generators = is.generators;
  texts = λ text state leads.
      let start = from_start table.initial leads.start leads.is_start in
      let own : leads.start.own ≡ table.initial = ap (λ (r : Rivals). r.own) start.0 in
      let run = own_run n table is.is_table text leads.start state leads.leads
      (λ none. start.1 (sym own ∙ none)) in
      let ended = is_there (ended_by (Pair n) (Some Neither) text)
      (is.texts text (λ none. run.1 (sym run.0 ∙ ap (λ s. after table s text) own ∙ none))) in
      text_of_run (Pair n) text ended.0 ended.1;
}
