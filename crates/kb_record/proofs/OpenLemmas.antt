-- The brackets that are open in a pass over tokens, and how the pass goes on.
use Rattle.std.proofs.Common.{◌≡◌, ◌⊎◌, inl, inr, ℕ, zero, suc, Bool, true, false, not, cond, List, [], ◌∷◌, ◌++◌, Option, Some, None, refl, sym, ap, subst, ◌∙◌}
use Rattle.std.specs.Borrow.{Bor}
use Rattle.std.specs.BTreeSet.{BTreeSet, Updates}
use Rattle.std.specs.List.{Contains}
use Rattle.std.specs.Str.{bytes_eq}
use Rattle.std.proofs.lemmas.Bool.{false≢true}
use Rattle.std.proofs.lemmas.List.{same_from_push}
use Rattle.std.proofs.lemmas.List.Elements.{Contains-append_left, Contains-push, Contains-push_cases}
use Rattle.std.proofs.lemmas.Option.{none-some}
use Rattle.std.proofs.lemmas.Slice.Eq.{bytes_eq-Decides}
use Rattle.std.proofs.lemmas.Map.Text.{is_eq-slice_cmp}
use Rattle.kb_lexing.specs.Token.{Token}
use Rattle.kb_record.specs.Repeats.{Naming, IsRepeatedAt, IsFirst, NoneIs}
use Rattle.kb_record.specs.NamesMet.{Bracket, Names, text_cmp, has, IsBracket, AreBrackets, GoesOn, Continues, names_met, behind_name}
use Rattle.kb_record.specs.declared.repeats.Open.{Open}
use Rattle.kb_record.specs.declared.repeats.Pass.{Pass}
use Rattle.kb_record.specs.declared.repeats.Pass.TheVariants as passes
use Rattle.kb_record.proofs.NamingLemmas.{first_here, first_later, front_is, sooner}

-- ---- going on

pub goes_on : (names : List Naming) → GoesOn names names
goes_on names = record { first = λ n f. f; none = λ none. none }

pub goes_further : (a b c : List Naming) → GoesOn a b → GoesOn b c → GoesOn a c
goes_further a b c g h = record { first = λ n f. h.first n (g.first n f); none = λ none. h.none (g.none none) }

-- behind a name that is new
goes_behind : (x : Naming) (xs : List Naming) → (Contains x.before x.name → ⊥) → GoesOn xs (x ∷ xs)
goes_behind x xs new = record { first = λ n f. first_later x xs n new f; none = λ rest k n r. none rest k n r }
  where
    none : NoneIs xs → (k : ℕ) (n : List ℕ) → IsRepeatedAt (x ∷ xs) k n → ⊥
    none rest zero n r = new (front_is x xs n r)
    none rest (suc k) n r = rest k n (sooner x xs k n r)

-- no name is met where no token is left
pub none_met : (tokens : List Token) (f : Bracket) (fs : List Bracket) → tokens ≡ [] → NoneIs (names_met tokens f fs)
none_met tokens f fs e = subst (λ (ts : List Token). NoneIs (names_met ts f fs)) (sym e) (λ k n r. none-some (record { name = n; before = r.before }) r.stands)

-- how a pass goes on that met other names before
pub continues : (pass : Pass) (state : Open) (names all : List Naming) (next : Names) → GoesOn names all → Continues pass state names next → Continues pass state all next
continues passes.On state names all next g h = (h.0, h.1, h.2, goes_further (next h.0 h.1) names all h.3 g)
continues passes.Ended state names all next g h = g.none h
continues (passes.Repeated text) state names all next g h = g.first text.now h

abbrev pub Seen : Type 0
Seen = Option (BTreeSet (Bor (List ℕ)))

-- ---- a bracket is closed

-- none is around where none is kept
pub none_around : (items : List Seen) (fs : List Bracket) → AreBrackets items fs → items ≡ [] → fs ≡ []
none_around items [] are e = refl
none_around items (f ∷ fs) are e = let whole : are.0 ++ are.1 ∷ [] ≡ [] = sym are.2 ∙ e in absurd (not_empty are.1 are.0 whole)
  where
    not_empty : (x : Seen) (xs : List Seen) → xs ++ x ∷ [] ≡ [] → ⊥
    not_empty x [] e = cc
    not_empty x (y ∷ xs) e = cc

-- the last that is kept is the one around
pub record Around (rest : List Seen) (last : Seen) (fs : List Bracket) : Type 0 where
  pub f : Bracket
  pub others : List Bracket
  pub whole : fs ≡ f ∷ others
  pub inner : IsBracket last f
  pub outer : AreBrackets rest others

pub last_around : (items rest : List Seen) (last : Seen) (fs : List Bracket) → AreBrackets items fs → items ≡ rest ++ last ∷ [] → Around rest last fs
last_around items rest last [] are e = absurd (not_empty rest (sym e ∙ are))
  where
    not_empty : (xs : List Seen) → xs ++ last ∷ [] ≡ [] → ⊥
    not_empty [] e = cc
    not_empty (y ∷ xs) e = cc
last_around items rest last (f ∷ fs) are e =
    let same = same_from_push are.0 rest are.1 last (sym are.2 ∙ e) in
    record {
      f = f;
      others = fs;
      whole = refl;
      inner = subst (λ (x : Seen). IsBracket x f) same.1 are.3;
      outer = subst (λ (xs : List Seen). AreBrackets xs fs) same.0 are.4;
    }

-- ---- a name is added

-- what the set has after an insertion
pub has_after : (seen new : BTreeSet (Bor (List ℕ))) (k : Bor (List ℕ)) → Updates text_cmp seen new k true → (q : List ℕ)
    → has new q ≡ cond (bytes_eq k.now q) true (has seen q)
has_after seen new k updates q =
    updates.0 (record { ref_ptr = (0, 0); now = q }) ∙ ap (λ b. cond b true (has seen q)) (is_eq-slice_cmp k.now q)

pub cond_same : (b : Bool) → cond b true true ≡ true
cond_same true = refl
cond_same false = refl

pub one_name_more : (seen new : BTreeSet (Bor (List ℕ))) (k : Bor (List ℕ)) (names : List (List ℕ)) → IsBracket (Some seen) (Some names) → Updates text_cmp seen new k true
    → IsBracket (Some new) (Some (names ++ k.now ∷ []))
one_name_more seen new k names are updates q = (λ e. one (bytes_eq k.now q) refl (sym (has_after seen new k updates q) ∙ e), λ has. has_after seen new k updates q ∙ back (Contains-push_cases names k.now q has))
  where
    one : (b : Bool) → bytes_eq k.now q ≡ b → cond (bytes_eq k.now q) true (has seen q) ≡ true → Contains (names ++ k.now ∷ []) q
    one true same e = let P : List ℕ → Type 0 = λ n. Contains (names ++ k.now ∷ []) n in subst P ((bytes_eq-Decides k.now q).0 same) (Contains-push names k.now)
    one false other e = Contains-append_left names (k.now ∷ []) q ((are q).0 (sym (ap (λ b. cond b true (has seen q)) other) ∙ e))

    back : Contains names q ⊎ (k.now ≡ q) → cond (bytes_eq k.now q) true (has seen q) ≡ true
    back (inl old) = ap (cond (bytes_eq k.now q) true) ((are q).1 old) ∙ cond_same (bytes_eq k.now q)
    back (inr same) = ap (λ b. cond b true (has seen q)) ((bytes_eq-Decides k.now q).1 same)

-- the name is new in a record
pub record Added (f : Bracket) (text : List ℕ) (new : BTreeSet (Bor (List ℕ))) (next : Names) (fs : List Bracket) : Type 0 where
  pub after : Bracket
  pub is : IsBracket (Some new) after
  pub on : GoesOn (next after fs) (behind_name text next f fs)

pub added : (seen new : BTreeSet (Bor (List ℕ))) (k : Bor (List ℕ)) (f : Bracket) (next : Names) (fs : List Bracket)
    → IsBracket (Some seen) f → has seen k.now ≡ false → Updates text_cmp seen new k true → Added f k.now new next fs
added seen new k None next fs are absent updates = absurd are
added seen new k (Some names) next fs are absent updates = record {
  after = Some (names ++ k.now ∷ []);
  is = one_name_more seen new k names are updates;
  on = goes_behind (record { name = k.now; before = names }) (next (Some (names ++ k.now ∷ [])) fs) (λ again. false≢true (sym absent ∙ (are k.now).1 again));
}

-- the name stands in a record before
pub repeated : (seen : BTreeSet (Bor (List ℕ))) (text : List ℕ) (f : Bracket) (next : Names) (fs : List Bracket)
    → IsBracket (Some seen) f → has seen text ≡ true → IsFirst (behind_name text next f fs) text
repeated seen text None next fs are found = absurd are
repeated seen text (Some names) next fs are found =
    first_here (record { name = text; before = names }) (next (Some (names ++ text ∷ [])) fs) ((are text).0 found)

-- no record is left
pub no_names : (text : List ℕ) (f : Bracket) (next : Names) (fs : List Bracket) → IsBracket None f → GoesOn (next f fs) (behind_name text next f fs)
no_names text None next fs are = goes_on (next None fs)
no_names text (Some names) next fs are = absurd are

pub not_true : (b : Bool) → not b ≡ true → b ≡ false
not_true true e = cc
not_true false e = refl

pub not_false : (b : Bool) → not b ≡ false → b ≡ true
not_false true e = refl
not_false false e = cc
