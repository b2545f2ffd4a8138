-- Names of generators have no fault, and other values have one.
use Rattle.std.proofs.Common.{◌≡◌, ◌≢◌, ℕ, List, length, refl, ap, subst, arith}
use Rattle.kb_record.specs.Tree.{Value}
use Rattle.kb_fields.specs.Fields.{IsListOf}
use Rattle.kb_fields.specs.Generators.{IsTaken, IsTakenAt, IsFirstTaken, AreGeneratorNames, HasNamesFault}
use Rattle.kb_fields.specs.declared.error.NamesFault.{NamesFault}
use Rattle.kb_fields.specs.declared.error.NamesFault.TheVariants as faults
use Rattle.kb_fields.proofs.ListingLemmas.{one_list_of_names}
use Rattle.kb_fields.proofs.TakenLemmas.{is_taken, one_taken}
use Rattle.kb_fields.proofs.FirstFaultLemmas.{one_first_place}

pub no_names_fault : (value : Value) (names : List (List ℕ)) (fault : NamesFault) → IsListOf names value → AreGeneratorNames names → HasNamesFault value fault → fault ≡ faults.Memory
no_names_fault value names faults.WrongKind listed are fault = absurd (fault names listed)
no_names_fault value names faults.TooMany listed are fault =
    let same = ap length (one_list_of_names value fault.0 names fault.1 listed) in absurd (omega (arith, fault.2, same, are.few))
no_names_fault value names (faults.Taken name) listed are fault =
    let same = one_list_of_names value fault.0 names fault.1 listed in
    let P : List (List ℕ) → Type 0 = λ ns. IsTaken ns name in
    absurd (are.free name (subst P same (is_taken fault.0 fault.3.check name fault.3.found)))
no_names_fault value names faults.Memory listed are fault = refl

-- of one list of names one is the first that is taken
pub one_first_taken : (names : List (List ℕ)) (m n : List ℕ) → IsFirstTaken names m → IsFirstTaken names n → m ≡ n
one_first_taken names m n a b = one_first_place (IsTakenAt names) (λ k x y s t. one_taken names k x y s t) m n a b

pub one_names_fault : (value : Value) (one other : NamesFault) → HasNamesFault value one → HasNamesFault value other → one ≢ faults.Memory → other ≢ faults.Memory
    → one ≡ other
one_names_fault value faults.Memory other a b given_one given_other = absurd (given_one refl)
one_names_fault value one faults.Memory a b given_one given_other = absurd (given_other refl)
one_names_fault value faults.WrongKind faults.WrongKind a b given_one given_other = refl
one_names_fault value faults.WrongKind faults.TooMany a b given_one given_other = absurd (a b.0 b.1)
one_names_fault value faults.WrongKind (faults.Taken name) a b given_one given_other = absurd (a b.0 b.1)
one_names_fault value faults.TooMany faults.WrongKind a b given_one given_other = absurd (b a.0 a.1)
one_names_fault value faults.TooMany faults.TooMany a b given_one given_other = refl
one_names_fault value faults.TooMany (faults.Taken name) a b given_one given_other =
    let same = ap length (one_list_of_names value a.0 b.0 a.1 b.1) in absurd (omega (arith, a.2, b.2, same))
one_names_fault value (faults.Taken name) faults.WrongKind a b given_one given_other = absurd (b a.0 a.1)
one_names_fault value (faults.Taken name) faults.TooMany a b given_one given_other =
    let same = ap length (one_list_of_names value a.0 b.0 a.1 b.1) in absurd (omega (arith, a.2, b.2, same))
one_names_fault value (faults.Taken m) (faults.Taken n) a b given_one given_other =
    let same = one_list_of_names value a.0 b.0 a.1 b.1 in
    let P : List (List ℕ) → Type 0 = λ ns. IsFirstTaken ns m in
    ap (λ (name : List ℕ). faults.Taken name) (one_first_taken b.0 m n (subst P same a.3) b.3)
