-- Files that are stored one after another.
use Rattle.std.proofs.Common.{◌≡◌, ◌≢◌, ◌∙◌, ◌⊎◌, inl, inr, ℕ, suc, ◌<◌, List, [], ◌∷◌, ◌++◌, length, Some, IsTrue, refl, sym, ap, subst, arith}
use Rattle.std.specs.List.{AllPairs, Contains}
use Rattle.std.proofs.lemmas.List.Elements.{Contains-append_cases, Contains-append_left, Contains-append_right, Contains-push, Contains-push_cases}
use Rattle.kb_io.specs.Outside.{Outside, outside, IsTold, GoesOn}
use Rattle.kb_io.specs.States.{ShelfState, SourceState, SinkState, ShelfGoesOn, HoldsSame, HoldsSameBut}
use Rattle.kb_task.specs.Runs.{IsRun}
use Rattle.kb_task.specs.Stores.{Text, text_of, texts_of, names_of, PutsText, StoresTexts, StoresFirst, StopsAtText, StoresMean}
use Rattle.kb_task.specs.declared.status.Status.{Status}
use Rattle.kb_task.specs.declared.status.Status.TheVariants.{Yes, Refused, Undecided, No, Memory, Fault, Usage}
use Rattle.kb_task.specs.declared.status.Which.TheVariants.{Load, Store, Input, Output}
use Rattle.kb_task.specs.declared.storing.TextFile.{TextFile}
use Rattle.kb_task.proofs.RunLemmas.{goes_on-along, counted_after}

-- ---- elements of a list

none_in_empty : {X : Type 0} (x : X) → ¬ Contains {X = X} [] x
none_in_empty x here = omega (arith, here.1)

-- an element of a list is its first or one of the others
first_or_other : {X : Type 0} (first : X) (others : List X) (x : X) → Contains (first ∷ others) x → (first ≡ x) ⊎ Contains others x
first_or_other first others x here = elim (Contains-append_cases (first ∷ []) others x here) [
  | inl one ↦ elim (Contains-push_cases [] first x one) [
    | inl none ↦ absurd (none_in_empty x none)
    | inr is ↦ inl is
  ]
  | inr other ↦ inr other
]

contains_first : {X : Type 0} (first : X) (others : List X) (x : X) → x ≡ first → Contains (first ∷ others) x
contains_first first others x is = subst (λ y. Contains (first ∷ others) y) (sym is) (Contains-append_left (first ∷ []) others first (Contains-push [] first))

contains_other : {X : Type 0} (first : X) (others : List X) (x : X) → Contains others x → Contains (first ∷ others) x
contains_other first others x here = Contains-append_right (first ∷ []) others x here

-- lists of names that are all different
abbrev Differ : List (List ℕ) → Type 0
Differ names = AllPairs (λ (one other : List ℕ). one ≢ other) names

others_differ : (first : List ℕ) (others : List (List ℕ)) → Differ (first ∷ others) → Differ others
others_differ first others differ i j d before within = differ (suc i) (suc j) d (omega arith) (omega arith)

first_differs : (first : List ℕ) (others : List (List ℕ)) → Differ (first ∷ others) → ¬ Contains others first
first_differs first others differ here =
    let within : here.0 < length others = here.1 in
    differ 0 (suc here.0) first (omega arith) (omega arith) (sym here.2)

names_append : (texts others : List Text) → names_of (texts ++ others) ≡ names_of texts ++ names_of others
names_append [] others = refl
names_append (text ∷ texts) others = ap (λ names. text.name ∷ names) (names_append texts others)

-- a name of the first texts is a name of all
name_of_first : (texts first rest : List Text) (name : List ℕ) → texts ≡ first ++ rest → Contains (names_of first) name → Contains (names_of texts) name
name_of_first texts first rest name whole here =
    subst (λ names. Contains names name) (sym (ap names_of whole ∙ names_append first rest))
    (Contains-append_left (names_of first) (names_of rest) name here)

-- ---- a run that stores a file, and then others

module _ (text : Text) (before between : ShelfState) (input : SourceState) (output : SinkState) (after : Outside)
    (told : IsTrue before.told) (puts : PutsText text before between) where
  stores-texts : (texts : List Text) → (¬ Contains (names_of texts) text.name)
      → StoresTexts texts (outside between input output) after → StoresTexts (text ∷ texts) (outside before input output) after
  stores-texts texts fresh later = record {
    unread = later.unread;
    unwritten = later.unwritten;
    holds = record {
      stored = λ one here. elim (first_or_other text texts one here) [
        | inl is ↦ subst (λ (t : Text). after.shelf.holds t.name ≡ Some t.bytes) is (later.holds.others text.name fresh ∙ puts.stored told)
        | inr other ↦ later.holds.stored one other
      ];
      others = λ name none. later.holds.others name (λ here. none (contains_other text.name (names_of texts) name here))
          ∙ puts.others name (λ same. none (contains_first text.name (names_of texts) name same));
    };
  }

  stops-at_text : (texts : List Text) (name : List ℕ) → (¬ Contains (names_of texts) text.name)
      → StopsAtText texts name (outside between input output) after → StopsAtText (text ∷ texts) name (outside before input output) after
  stops-at_text texts name fresh later = record {
    first = text ∷ later.first;
    text = later.text;
    rest = later.rest;
    whole = ap (λ all. text ∷ all) later.whole;
    named = later.named;
    unread = later.unread;
    unwritten = later.unwritten;
    stored = λ one here differs. elim (first_or_other text later.first one here) [
      | inl is ↦ subst (λ (t : Text). after.shelf.holds t.name ≡ Some t.bytes) is
          (later.others text.name (λ same. differs (ap (λ (t : Text). t.name) (sym is) ∙ same))
          (λ named. fresh (name_of_first texts later.first (later.text ∷ later.rest) text.name later.whole named)) ∙ puts.stored told)
      | inr other ↦ later.stored one other differs
    ];
    others = λ other differs none. later.others other differs (λ here. none (contains_other text.name (names_of later.first) other here))
        ∙ puts.others other (λ same. none (contains_first text.name (names_of later.first) other same));
  }

  stores-first : (texts : List Text) → (¬ Contains (names_of texts) text.name)
      → StoresFirst texts (outside between input output) after → StoresFirst (text ∷ texts) (outside before input output) after
  stores-first texts fresh later = record {
    first = text ∷ later.first;
    rest = later.rest;
    whole = ap (λ all. text ∷ all) later.whole;
    stores = stores-texts later.first (λ named. fresh (name_of_first texts later.first later.rest text.name later.whole named)) later.stores;
  }

  stores-mean : (texts : List Text) (status : Status) → (¬ Contains (names_of texts) text.name)
      → StoresMean texts (outside between input output) after status → StoresMean (text ∷ texts) (outside before input output) after status
  stores-mean texts Yes fresh later = stores-texts texts fresh later
  stores-mean texts Memory fresh later = stores-first texts fresh later
  stores-mean texts (Fault (Store name)) fresh later = stops-at_text texts name fresh later
  stores-mean texts (Fault (Load name)) fresh later = later
  stores-mean texts (Fault Input) fresh later = later
  stores-mean texts (Fault Output) fresh later = later
  stores-mean texts (Refused refusal) fresh later = later
  stores-mean texts (Undecided limit) fresh later = later
  stores-mean texts (No cert) fresh later = later
  stores-mean texts (Usage kind) fresh later = later

-- the shelf went on, and nothing else did
goes_on-shelf : {before after : ShelfState} (input : SourceState) (output : SinkState) → ShelfGoesOn before after
    → GoesOn (outside before input output) (outside after input output)
goes_on-shelf input output goes_on = record {
  shelf = goes_on;
  input = record { told = refl; faults = omega arith };
  output = record { told = refl; faults = omega arith };
}

-- a run that stores these files, where they stand on the shelf at its end
abbrev StoresAll : List Text → Outside → Outside → Status → Type 0
StoresAll texts before after status = IsRun (StoresMean texts) (Contains (names_of texts)) before after status

told_between : {text : Text} {before between : ShelfState} {input : SourceState} {output : SinkState} → PutsText text before between
    → IsTold (outside before input output) → IsTold (outside between input output)
told_between puts told = record { shelf = subst IsTrue (sym puts.goes_on.told) told.shelf; input = told.input; output = told.output }

run-puts : {text : Text} {rest : List Text} {before between : ShelfState} (input : SourceState) (output : SinkState) (after : Outside) (status : Status)
    → (¬ Contains (names_of rest) text.name) → PutsText text before between
    → StoresAll rest (outside between input output) after status → StoresAll (text ∷ rest) (outside before input output) after status
run-puts {text} {rest} {before} {between} input output after status fresh puts run =
    let goes_on = goes_on-shelf input output puts.goes_on in record {
      means = λ told. stores-mean text before between input output after told.shelf puts rest status fresh (run.means (told_between puts told));
      fault = counted_after (outside before input output) (outside between input output) after status goes_on run.fault;
      goes_on = goes_on-along goes_on run.goes_on;
      files = λ name may_not. run.files name (λ is. may_not (contains_other text.name (names_of rest) name is))
          ∙ puts.others name (λ same. may_not (contains_first text.name (names_of rest) name same));
    }

-- ---- a run that ends at its first file

module _ (text : Text) (rest : List Text) (before after : ShelfState) (input : SourceState) (output : SinkState) (goes_on : ShelfGoesOn before after) where
  pub run-store_fails : HoldsSameBut text.name before after → before.store_faults < after.store_faults
      → StoresAll (text ∷ rest) (outside before input output) (outside after input output) (Fault (Store text.name))
  run-store_fails others failed = record {
    means = λ told. record {
      first = [];
      text = text;
      rest = rest;
      whole = refl;
      named = refl;
      unread = refl;
      unwritten = refl;
      stored = λ one here. absurd (none_in_empty one here);
      others = λ other differs none. others other differs;
    };
    fault = failed;
    goes_on = goes_on-shelf input output goes_on;
    files = λ name may_not. others name (λ same. may_not (contains_first text.name (names_of rest) name same));
  }

  pub run-store_no_memory : HoldsSame before after
      → StoresAll (text ∷ rest) (outside before input output) (outside after input output) Memory
  run-store_no_memory same = record {
    means = λ told. record {
      first = [];
      rest = text ∷ rest;
      whole = refl;
      stores = record {
        unread = refl;
        unwritten = refl;
        holds = record { stored = λ one here. absurd (none_in_empty one here); others = λ name none. same name };
      };
    };
    fault = tt;
    goes_on = goes_on-shelf input output goes_on;
    files = λ name may_not. same name;
  }

-- ---- a run that stores files in a loop

-- what is left to be stored: a run that stores it from now on is a run that stores all
pub record Storing (whole rest : List Text) (before now : ShelfState) : Type 0 where
  pub differ : Differ (names_of rest)
  pub runs : (input : SourceState) (output : SinkState) (after : Outside) (status : Status)
      → StoresAll rest (outside now input output) after status → StoresAll whole (outside before input output) after status

pub storing-begin : (whole : List Text) (before : ShelfState) → Differ (names_of whole) → Storing whole whole before before
storing-begin whole before differ = record { differ = differ; runs = λ input output after status run. run }

-- the first of the files that are left
pub storing-first : {whole : List Text} {files : List TextFile} {before now : ShelfState} (file : TextFile) (later : List TextFile)
    → files ≡ file ∷ later → Storing whole (texts_of files) before now → Storing whole (text_of file ∷ texts_of later) before now
storing-first {whole} {files} {before} {now} file later is storing = subst (λ (left : List TextFile). Storing whole (texts_of left) before now) is storing

pub storing-next : {whole rest : List Text} {text : Text} {before now next : ShelfState} → Storing whole (text ∷ rest) before now
    → PutsText text now next → Storing whole rest before next
storing-next {rest = rest} {text = text} storing puts = record {
  differ = others_differ text.name (names_of rest) storing.differ;
  runs = λ input output after status run. storing.runs input output after status
      (run-puts input output after status (first_differs text.name (names_of rest) storing.differ) puts run);
}

nothing_left : (files : List TextFile) → length files ≡ 0 → files ≡ []
nothing_left [] none = refl
nothing_left (file ∷ files) none = absurd (omega arith)

pub storing-last : {whole : List Text} (files : List TextFile) {before now : ShelfState} → length files ≡ 0
    → Storing whole (texts_of files) before now → Storing whole [] before now
storing-last {whole} files {before} {now} none storing =
    subst (λ (left : List TextFile). Storing whole (texts_of left) before now) (nothing_left files none) storing

pub storing-end : {whole : List Text} {before now : ShelfState} (input : SourceState) (output : SinkState) → Storing whole [] before now
    → StoresAll whole (outside before input output) (outside now input output) Yes
storing-end {now = now} input output storing = storing.runs input output (outside now input output) Yes (record {
  means = λ told. record {
    unread = refl;
    unwritten = refl;
    holds = record { stored = λ one here. absurd (none_in_empty one here); others = λ name none. refl };
  };
  fault = tt;
  goes_on = goes_on-shelf input output (record { told = refl; load_faults = omega arith; store_faults = omega arith });
  files = λ name may_not. refl;
})
