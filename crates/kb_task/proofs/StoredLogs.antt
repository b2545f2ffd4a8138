-- The log of a completion, stored beside its presentation, is read: a file's presentation has few relations, and no
-- long ones.
use Rattle.std.proofs.Common.{◌≡◌, ◌∙◌, ℕ, zero, suc, ◌+◌, ◌≤◌, Bool, true, false, nat_lt, if◌then◌else◌, List, [], ◌∷◌, ◌++◌, length, Option, None, Some, Result, Ok, Err, refl, sym, ap, subst, inl, inr, arith, length-append}
use Rattle.std.specs.Prelude.{All}
use Rattle.std.proofs.lemmas.Bool.{ltb-false, cases_order}
use Rattle.std.proofs.lemmas.Option.{same_Some}
use Rattle.kb_lexing.specs.Spelling.{IsName}
use Rattle.kb_word.specs.Names.{AreApart}
use Rattle.kb_word.specs.Words.{Pair, OneOf}
use Rattle.kb_word.specs.Presentations.{PresentationParts}
use Rattle.kb_word.specs.Relations.{IsPresentation, inverse_relations, relations_of}
use Rattle.kb_machine.specs.declared.line.Line.{Line}
use Rattle.kb_machine.proofs.Relations.{one_of_append}
use Rattle.kb_record.specs.Tree.{Factors, no_factors, factor, Fields}
use Rattle.kb_record.specs.Meaning.{WordFault, too_long, most_letters, and_then, product, factor_meaning, product_meaning}
use Rattle.kb_fields.specs.Generators.{AreGeneratorNames}
use Rattle.kb_presfile.specs.Holds.{AreMeanings, HoldsPresentation}
use Rattle.kb_presfile.proofs.OverLemmas.{equations_over}
use Rattle.kb_presfile.proofs.WeightLemmas.{order_weighs}
use Rattle.kb_proof.specs.Completions.{AreShort, AreShortParts}
use Rattle.kb_proof.specs.Faults.{HasLogFault}
use Rattle.kb_proof.specs.Printable.{AreReadableNames}
use Rattle.kb_proof.specs.Printed.{header, text_of_body}
use Rattle.kb_proof.specs.declared.log.Log.{Log}
use Rattle.kb_proof.specs.declared.log.Version.TheVariants.{Two}
use Rattle.kb_proof.proofs.Completions.{ArePrintable, completion_printable}
use Rattle.kb_proof.proofs.FaultLemmas.{text_right}
use Rattle.kb_proof.proofs.SameLemmas.{log_same}
use Rattle.kb_task.specs.Loads.{Files, IsHeld}
use Rattle.kb_task.specs.Logs.{HoldsLog, IsLogFault}
use Rattle.kb_task.specs.StoredLogs.{StoresLog, SaysLines, IsReadAsLog}
use Rattle.kb_task.specs.declared.status.FileFault.{FileFault}
use Rattle.kb_task.specs.declared.status.FileFault.TheVariants.{Missing, TooLong, Log as NoLog}
use Rattle.kb_task.proofs.EquationLemmas.{equations-few}
use Rattle.kb_task.proofs.LoadEnds.{same_bytes}

-- ---- words

-- where a step follows another, both succeed
record BothSucceed (first : Result (List ℕ) WordFault) (next : List ℕ → Result (List ℕ) WordFault) (v : List ℕ) : Type 0 where
  between : List ℕ
  was : first ≡ Ok between
  gave : next between ≡ Ok v

both_succeed : (first : Result (List ℕ) WordFault) (next : List ℕ → Result (List ℕ) WordFault) (v : List ℕ) → and_then first next ≡ Ok v
    → BothSucceed first next v
both_succeed (Ok w) next v e = record { between = w; was = refl; gave = e }
both_succeed (Err fault) next v e = cc

ok_same : {v w : List ℕ} → ◌≡◌ {A = Result (List ℕ) WordFault} (Ok v) (Ok w) → v ≡ w
ok_same e = cc

unless_long : (long : Bool) (w v : List ℕ) → (if long then Err too_long else Ok w) ≡ Ok v → (long ≡ false) × (w ≡ v)
unless_long true w v e = cc
unless_long false w v e = (refl, ok_same e)

-- a product is not too long
product_short : (so_far w v : List ℕ) → product so_far w ≡ Ok v → length v ≤ most_letters
product_short so_far w v e =
    let is = unless_long (nat_lt most_letters (length so_far + length w)) (so_far ++ w) v e in
    let few : length so_far + length w ≤ most_letters = ltb-false most_letters (length so_far + length w) is.0 in
    omega (arith, few, length-append so_far w, ap length is.1)

-- nor is what factors mean
meaning_short : (names : List (List ℕ)) (inverses : List (Option ℕ)) (factors : Factors) (so_far v : List ℕ) → length so_far ≤ most_letters
    → product_meaning names inverses so_far factors ≡ Ok v → length v ≤ most_letters
meaning_short names inverses no_factors so_far v few e = omega (arith, few, ap length (ok_same e))
meaning_short names inverses (factor next others) so_far v few e =
    let whole = both_succeed (and_then (factor_meaning names inverses next) (product so_far))
    (λ w. product_meaning names inverses w others) v e in
    let last = both_succeed (factor_meaning names inverses next) (product so_far) whole.between whole.was in
    meaning_short names inverses others whole.between v (product_short so_far last.between whole.between last.gave) whole.gave

-- both sides have at most so many letters
abbrev IsShort : Pair → Type 0
IsShort pair = (length pair.0 ≤ most_letters) × (length pair.1 ≤ most_letters)

meanings_short : (names : List (List ℕ)) (inverses : List (Option ℕ)) (sides : List (Factors × Factors)) (pairs : List Pair)
    → AreMeanings names inverses sides pairs → (pair : Pair) → OneOf pairs pair → IsShort pair
meanings_short names inverses [] [] are pair (index, at) = absurd (cc at)
meanings_short names inverses [] (p ∷ pairs) are pair one = absurd (cc are)
meanings_short names inverses (s ∷ sides) [] are pair one = absurd are
meanings_short names inverses (s ∷ sides) (p ∷ pairs) are pair (suc index, at) =
    meanings_short names inverses sides pairs are.2 pair (index, at)
meanings_short names inverses (s ∷ sides) (p ∷ pairs) are pair (zero, at) =
    let same : p ≡ pair = cc at in
    let none : length {A = ℕ} [] ≤ most_letters = omega arith in
    subst (λ (one : Pair). (length one.0 ≤ most_letters) × (length one.1 ≤ most_letters)) same
    (meaning_short names inverses s.0 [] p.0 none are.0, meaning_short names inverses s.1 [] p.1 none are.1)

-- ---- relations

inverses_short : (x : ℕ) (inverses : List (Option ℕ)) (pair : Pair) → OneOf (inverse_relations x inverses) pair → IsShort pair
inverses_short x [] pair one = absurd (cc one.1)
inverses_short x (None ∷ rest) pair one = inverses_short (suc x) rest pair one
inverses_short x (Some y ∷ rest) pair (suc index, at) = inverses_short (suc x) rest pair (index, at)
inverses_short x (Some y ∷ rest) pair (zero, at) =
    let same : (x ∷ y ∷ [], []) ≡ pair = cc at in
    let short : IsShort (x ∷ y ∷ [], []) = (omega arith, omega arith) in
    subst (λ (one : Pair). (length one.0 ≤ most_letters) × (length one.1 ≤ most_letters)) same short

inverses_few : (x : ℕ) (inverses : List (Option ℕ)) → length (inverse_relations x inverses) ≤ length inverses
inverses_few x [] = omega arith
inverses_few x (None ∷ rest) = omega (arith, inverses_few (suc x) rest)
inverses_few x (Some y ∷ rest) = omega (arith, inverses_few (suc x) rest)

-- the relations of a file's presentation are short
relations_short : (fields : Fields) (parts : PresentationParts) → HoldsPresentation fields parts
    → AreShort (relations_of parts.inverses parts.equations)
relations_short fields parts holds =
    let inverses = parts.inverses in
    let equations = parts.equations in
    let has = holds.equations in
    let count = holds.inverses.gives.letters.one_each in
    let names = holds.names.few in
    record {
      few =
          omega (
            arith,
            names,
            count,
            inverses_few 1 inverses,
            equations-few fields parts.names inverses equations has,
            length-append equations (inverse_relations 1 inverses),
          );
      sides =
          λ pair one.
          let short : IsShort pair = elim (one_of_append equations (inverse_relations 1 inverses) pair one) [
            | inl equation ↦ meanings_short parts.names inverses has.read.sides equations has.read.meanings pair equation
            | inr inverse ↦ inverses_short 1 inverses pair inverse
          ] in
          let left = short.0 in
          let right = short.1 in
          (omega (arith, left), omega (arith, right));
    }

-- a file's presentation is one
pub parts_present : (fields : Fields) (parts : PresentationParts) → HoldsPresentation fields parts
    → IsPresentation (length parts.names) parts.order parts.names parts.inverses parts.equations
parts_present fields parts holds =
    let gives = holds.inverses.gives in
    equations_over parts.names parts.inverses gives.both_ways gives.letters.one_each (length parts.names) parts.order
    holds.equations.places parts.equations refl
    (order_weighs fields parts.names parts.order (length parts.names) holds.ordered refl) holds.equations.read

-- ---- names

-- names that generators can have differ
pub names_apart : (names : List (List ℕ)) → AreGeneratorNames names → AreApart names
names_apart names generators place other name at_place at_other = elim (cases_order place other) [
  | inl same ↦ same
  | inr (inl before) ↦ absurd (generators.free name
      (inl (record { first = place; again = other; later = before; at_first = at_place; at_again = at_other })))
  | inr (inr after) ↦ absurd (generators.free name
      (inl (record { first = other; again = place; later = after; at_first = at_other; at_again = at_place })))
]

-- ---- logs

module _ (files : Files) (name : List ℕ) (names : List (List ℕ)) (lines : List Line) (waiting : Option Line)
    (readable : AreReadableNames names) (are : ArePrintable names lines waiting)
    (held : IsHeld files name (header Two ++ text_of_body Two names lines waiting)) where
  log_unrefused : (fault : FileFault) → ¬ IsLogFault names files name fault
  log_unrefused Missing none = let held_there = held.held in cc
  log_unrefused TooLong long =
      let same = same_Some (header Two ++ text_of_body Two names lines waiting) long.0 (sym held.held ∙ long.1) in
      let short = held.short in
      let more = long.2 in
      omega (arith, short, more, ap length same)
  log_unrefused (NoLog fault) is =
      let same = same_bytes refl held is.1 in
      is.3 (text_right names Two lines waiting fault readable are.each are.last are.few
      (subst (λ bytes. HasLogFault names bytes fault) (sym same) is.2))
  log_unrefused _ is = is

  log_says : AreApart names → (log : Log) → HoldsLog files name names log → SaysLines lines waiting log
  log_says apart log holds =
      let text = same_bytes refl held holds.held ∙ holds.says in
      let same = log_same names Two lines waiting log readable apart are.each are.last are.few holds.printable text in
      record { with_derivations = sym same.0; same = same.1.lines; same_waiting = same.1.waiting }

-- a log that is stored beside its presentation is read
pub stored_read : (files : Files) (file name : List ℕ) (parts : PresentationParts) (lines : List Line) (waiting : Option Line)
    → StoresLog files file name parts lines waiting → All IsName parts.names → IsReadAsLog files name parts.names lines waiting
stored_read files file name parts lines waiting stores spelled =
    let says = stores.presents.says in
    let generators = says.holds.names in
    let readable : AreReadableNames parts.names =
    record { spelled = spelled; free = λ within. generators.free _ (inr (within, inl refl)) } in
    let short : AreShortParts parts = record {
      presents = parts_present says.text.fields parts says.holds;
      short = relations_short says.text.fields parts says.holds;
    } in
    let few = stores.held.short in
    let are = completion_printable parts lines waiting short stores.justified (omega (arith, few)) in
    record {
      unrefused = log_unrefused files name parts.names lines waiting readable are stores.held;
      says = log_says files name parts.names lines waiting readable are stores.held (names_apart parts.names generators);
    }
