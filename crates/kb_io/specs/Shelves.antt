-- What the shelves over memory hold.
use Rattle.std.specs.Prelude.{ℕ, List, Option, option_map, true}
use Rattle.std.specs.BTreeMap.{get_by_text}
use Rattle.kb_io.specs.Calls.{Calls}
use Rattle.kb_io.specs.States.{ShelfState}
use Rattle.kb_io.specs.declared.memory.whole_shelf.WholeShelf.{WholeShelf}
use Rattle.kb_io.specs.declared.memory.mem_shelf.MemShelf.{MemShelf}

-- the bytes under a name
abbrev pub whole_holds : WholeShelf → List ℕ → Option (List ℕ)
whole_holds shelf name = option_map (λ bytes. bytes.items) (get_by_text shelf.files name)

abbrev pub mem_holds : MemShelf → List ℕ → Option (List ℕ)
mem_holds shelf = whole_holds shelf.shelf

-- the loads and the stores of a shelf
abbrev pub mem_loads : MemShelf → Calls
mem_loads shelf = shelf.loads

abbrev pub mem_stores : MemShelf → Calls
mem_stores shelf = shelf.stores

-- their states
abbrev pub whole_state : WholeShelf → ShelfState
whole_state shelf =
    record { told = true; holds = whole_holds shelf; load_faults = 0; store_faults = 0 }

abbrev pub mem_state : MemShelf → ShelfState
mem_state shelf = record {
  told = true;
  holds = mem_holds shelf;
  load_faults = (mem_loads shelf).faults;
  store_faults = (mem_stores shelf).faults;
}
