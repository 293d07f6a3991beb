-- An index by number of literals: document 02, Eight. "Keep beside a list an index: the list's places, 2 bytes each, ordered by number of literals and then by place, with
-- the start of each group 0 to 32, counted in entries. Asked for a number from 0 to 32, it returns the run of the caller's index that holds exactly those places. A refusal
-- hands back an empty run". "A sibling of run keeps one for the work list. After each step, and after the undoing, the index kept up equals the one built afresh, zeros after
-- it". Which calls are accepted, and what the others are refused by, is demand 1; after each step is the contract of `advance_indexed`, inside the run.
-- Assumes nothing.
use mathlib.Core.Path.{◌≡◌, sym, ap, ap₂, ◌∙◌, subst}
use mathlib.Core.List.{List, [], ◌∷◌, Memᴰ}
use Prim.Native.Nat.{ℕ, ◌-◌, ◌*◌, ◌≤◌, ◌<◌, zero-le}
use native.Mathlib.Nat.{sub-zero}
use lib.Dec.{ltb}
use lib.ListN.{length, get_or, drop}
use contract.Lifetimes.{Lfts}
use denote.Triple.Clauses.{Lasts, at_exit}
use borrow.Fn.Kinds.{Dens, res_t, ended_of}
use Rattle.bits.specs.Below.{those, Ascending}
use Rattle.bits.specs.Sums.{All}
use Rattle.records.specs.declared.Refusal.{Refusal}
use Rattle.records.specs.Records.{records, list_of, written, image, zeros}
use Rattle.records.specs.Places.{place_width, places}
use Rattle.records.specs.Answers.{Outcome, accepted, refused}
use Rattle.records.proofs.Answers.{not_both, accepted_values, after_accepted}
use Rattle.records.proofs.Behind.{written_image}
use Rattle.records.proofs.Filling.{length_zeros}
use Rattle.records.proofs.Places.{places_lawful, places_back, places_rest}
use Rattle.cube.specs.declared.Cube.{Cube}
use Rattle.cube.specs.Cubes.{one, Good, differing_number}
use Rattle.cube.specs.Lists.{cubes_of, cube_capacity}
use Rattle.script.specs.Run.{Ran, stopped, ended}
use Rattle.script.specs.Calls.{run_of, ran_outcome, ran_work}
use Rattle.index.specs.Index.{group_count, literals_at, list_index, list_starts, list_group}
use Rattle.index.specs.Ordered.{Ordered, OneOfThree}
use Rattle.index.specs.Calls.{build_after, group_outcome}
use Rattle.index.proofs.Entries.{length_index}
use Rattle.index.proofs.Accepted.{list_grouped, AcceptedBuild, build_accepts, group_accepts}
use Rattle.index.proofs.Round.{built_starts, built_found}
use Rattle.index.proofs.Ordered.{list_ordered, list_start}
use Rattle.index.proofs.Groups as groups
use Rattle.index.proofs.Near.{partner_group}
use Rattle.index.proofs.group.group.Kinds as group_kinds
use Rattle.index.proofs.group.group.Reads as group_reads
use Rattle.indexed.specs.Calls.{ran_index, ran_starts}
use Rattle.indexed.proofs.AsRun.{answers_as_run, leaves_as_run}
use Rattle.promises.specs.Calls.{Call, build_index, group, run, run_indexed, answers, leaves, Called}
use Rattle.promises.specs.Refusals.{NoneWrong, faults}
use Rattle.promises.specs.ByLiterals.{Kept}
use Rattle.promises.specs.Accepted.{goes_on, goes_on_leaving}
use Rattle.promises.proofs.Calling.{only, work_of, out_of}
use Rattle.promises.proofs.DemandOne.{accepted_not_wrong, not_wrong_goes_on}

-- ---- build: a call that was accepted

module _ (n : ℕ) (list index starts : List ℕ) (count : ℕ) (index' starts' : List ℕ)
    (called : Called (build_index n list index starts) (accepted (count ∷ [])) (index' ∷ starts' ∷ [])) where
  abbrev l : List Cube
  l = cubes_of list

  A : AcceptedBuild n list (length index) (count ∷ [])
  unfolding answers
  A = build_accepts n list (length index) (count ∷ []) (sym called.answer)

  left : (index' ≡ build_after n list index) × (starts' ≡ list_starts l)
  unfolding answers leaves
  left = (work_of called.left, out_of called.left ∙ after_accepted _ _ starts (count ∷ []) (sym called.answer))

  long : length (list_index l) ≡ length l
  unfolding list_index
  long = length_index (literals_at l) (length l) (list_grouped n list A.list)

  room : place_width * length (list_index l) ≤ length index
  room = subst (λ (k : ℕ). place_width * k ≤ length index) (sym long) A.fits

  -- It answers the count of the list ..
  pub count_is : count ≡ length (cubes_of list)
  count_is = ap (λ (v : List ℕ). get_or v 0 0) A.value

  index_is : index' ≡ written places 0 (list_index l) index
  unfolding answers build_after
  index_is = left.0 ∙ after_accepted _ _ index (count ∷ []) (sym called.answer)

  many : count ≡ length (list_index l)
  many = count_is ∙ sym long

  -- .. and writes its index, 2 bytes an entry, ..
  pub entries_are : records places count index' ≡ list_index (cubes_of list)
  entries_are = ap₂ (λ (k : ℕ) (b : List ℕ). records places k b) many index_is ∙ places_back index (list_index l) room

  -- .. and no other byte.
  pub no_other_byte : drop (place_width * count) index' ≡ drop (place_width * count) index
  no_other_byte =
      ap₂ (λ (k : ℕ) (b : List ℕ). drop (place_width * k) b) many index_is ∙ places_rest index (list_index l) room ∙ ap (λ (k : ℕ). drop (place_width * k) index) (sym many)

  pub starts_are : starts' ≡ list_starts (cubes_of list)
  starts_are = left.1

  -- The entries are the list's places, each exactly once, by number of literals and then by place.
  pub entries_ordered : Ordered (literals_at (cubes_of list)) (length (cubes_of list)) (records places count index')
  entries_ordered = subst (Ordered (literals_at l) (length l)) (sym entries_are) (list_ordered n l A.list.few A.list.good)

  -- The start of group m is the number of cubes with fewer than m literals.
  pub start_is : (m : ℕ) → m < group_count → get_or starts' m 0 ≡ length (those (λ p. ltb (literals_at (cubes_of list) p) m) (length (cubes_of list)) 0)
  start_is m h = ap (λ (s : List ℕ). get_or s m 0) starts_are ∙ list_start n l A.list.few A.list.good m h

  -- A built index is never refused, whatever stands behind its entries: asked for a number from 0 to 32, the sibling call answers how many cubes have so many literals.
  pub never_refused : (m : ℕ) → m < group_count → (o : Outcome) → Called (group n list index' starts' m) o [] → o ≡ accepted (length (list_group (cubes_of list) m) ∷ [])
  unfolding answers
  never_refused m h o asked =
      asked.answer
      ∙ ap₂ (λ (x s : List ℕ). group_outcome n list x s m) left.0 (left.1 ∙ sym (built_starts n list index A.values A.checked A.fits))
      ∙ built_found n list index A.values A.checked A.fits m h

-- what a call of build that was accepted left, and that it fits
build_accepts_called : (n : ℕ) (list index starts : List ℕ) (count : ℕ) (index' starts' : List ℕ) → Called (build_index n list index starts) (accepted (count ∷ [])) (index' ∷ starts' ∷ [])
    → (index' ≡ written places 0 (list_index (cubes_of list)) index) × (place_width * length (list_index (cubes_of list)) ≤ length index)
build_accepts_called n list index starts count index' starts' called =
    (index_is n list index starts count index' starts' called, room n list index starts count index' starts' called)

-- the three buffers of a call
first_of : {a b c x y z : List ℕ} → ◌≡◌ {A = List (List ℕ)} (a ∷ b ∷ c ∷ []) (x ∷ y ∷ z ∷ []) → a ≡ x
first_of e = cc

second_of : {a b c x y z : List ℕ} → ◌≡◌ {A = List (List ℕ)} (a ∷ b ∷ c ∷ []) (x ∷ y ∷ z ∷ []) → b ≡ y
second_of e = cc

third_of : {a b c x y z : List ℕ} → ◌≡◌ {A = List (List ℕ)} (a ∷ b ∷ c ∷ []) (x ∷ y ∷ z ∷ []) → c ≡ z
third_of e = cc

-- ---- group: over the contract of the function that hands back the run, with the sibling call on the same arguments

module _ (κs : Lfts 2) (a : Dens κs group_kinds.ps) (z : (res_t group_kinds.r κs).Denot) (ws : Lasts (ended_of 2 group_kinds.ps group_kinds.r) κs a)
    (learnt : group_reads.Learnt κs a z (at_exit (ended_of 2 group_kinds.ps group_kinds.r) κs a ws)) where
  abbrev asked_of : Call
  asked_of = group a.0 a.1.0.now a.1.1.0.now a.1.1.1.0 a.1.1.1.1.0

  abbrev cubes_of_lem : List Cube
  cubes_of_lem = cubes_of a.1.0.now

  abbrev number : ℕ
  number = a.1.1.1.1.0

  -- "A refusal hands back an empty run".
  pub refusal_hands_back_none : (r : Refusal) → Called asked_of (refused r) [] → z.now ≡ []
  unfolding answers
  refusal_hands_back_none r called = learnt ∙ groups.group_empty a.0 a.1.0.now a.1.1.0.now a.1.1.1.0 number r (sym called.answer)

  module _ (long : length a.1.1.1.0 ≡ group_count) (size : ℕ) (called : Called asked_of (accepted (size ∷ [])) []) where
    -- Accepted, the run's entries are the places of the cubes with that many literals ..
    pub run_is : list_of places z.now ≡ list_group (cubes_of a.1.0.now) a.1.1.1.1.0
    unfolding answers
    run_is = ap (list_of places) learnt ∙ groups.group_holds a.0 a.1.0.now a.1.1.0.now a.1.1.1.0 number (size ∷ []) long (sym called.answer)

    -- .. all of them ..
    pub run_has_all : (p : ℕ) → p < length (cubes_of a.1.0.now) → literals_at (cubes_of a.1.0.now) p ≡ a.1.1.1.1.0 → Memᴰ p (list_of places z.now)
    run_has_all p h e = subst (Memᴰ p) (sym run_is) (groups.group_all cubes_of_lem number p h e)

    -- .. and no others, ..
    pub run_has_none_else : (p : ℕ) → Memᴰ p (list_of places z.now) → (p < length (cubes_of a.1.0.now)) × (literals_at (cubes_of a.1.0.now) p ≡ a.1.1.1.1.0)
    run_has_none_else p h = groups.group_in cubes_of_lem number p (subst (Memᴰ p) run_is h)

    -- .. ascending; and the sibling answers how many they are.
    pub run_ascends : Ascending 0 (list_of places z.now)
    run_ascends = subst (Ascending 0) (sym run_is) (groups.group_ascending cubes_of_lem number)

    pub size_is : size ≡ length (list_of places z.now)
    unfolding answers
    size_is =
        ap (λ (v : List ℕ). get_or v 0 0) (group_accepts a.0 a.1.0.now a.1.1.0.now a.1.1.1.0 number long (size ∷ []) (sym called.answer)).value
        ∙ ap length (sym run_is)

-- "Partners for a join differ by at most one in their number of literals": of a list of good cubes, the partner of a cube, for a join or for a drop, stands in one of three groups.
pub partners_near : (n : ℕ) (l : List Cube) → All (Good n) l → (i j : ℕ) → j < length l → differing_number n (get_or l i one) (get_or l j one) ≤ 1 → OneOfThree l i j
partners_near = partner_group

-- ---- run with an index, beside run

module _ (n : ℕ) (list script work index starts : List ℕ) (o : Outcome) (work' index' starts' : List ℕ)
    (called : Called (run_indexed n list script work index starts) o (work' ∷ index' ∷ starts' ∷ [])) where
  -- Where the index buffer has room for the work buffer's capacity it answers what run answers, and leaves in work what run leaves.
  pub as_run : place_width * cube_capacity (length work) ≤ length index → (q : Outcome) (work'' : List ℕ) → Called (run n list script work) q (work'' ∷ []) → (o ≡ q) × (work' ≡ work'')
  unfolding answers leaves
  as_run h q work'' ran = (
    called.answer ∙ answers_as_run n list script (length work) (length index) h ∙ sym ran.answer,
    first_of called.left ∙ leaves_as_run n list script work (length index) h ∙ sym (only ran.left),
  )

  module _ (count peak : ℕ) (fine : o ≡ accepted (count ∷ peak ∷ [])) where
    none : NoneWrong (faults (run_indexed n list script work index starts))
    none = accepted_not_wrong (run_indexed n list script work index starts) o (work' ∷ index' ∷ starts' ∷ []) called (count ∷ peak ∷ []) fine

    abbrev ran : Ran Cube
    ran = run_of n list script (length work)

    went_on : (o ≡ ran_outcome ran) × (work' ∷ index' ∷ starts' ∷ [] ≡ ran_work (length work) ran ∷ ran_index (length index) ran ∷ ran_starts ran ∷ [])
    unfolding goes_on goes_on_leaving
    went_on = not_wrong_goes_on (run_indexed n list script work index starts) o (work' ∷ index' ∷ starts' ∷ []) called none

    end : (t : Ran Cube) → accepted (count ∷ peak ∷ []) ≡ ran_outcome t → work' ≡ ran_work (length work) t → index' ≡ ran_index (length index) t → starts' ≡ ran_starts t
        → Kept (length work) (length index) count work' index' starts'
    end (stopped why step) e w x s = absurd (not_both e)
    end (ended m q) e w x s = record { list = m; count_is = ap (λ (v : List ℕ). get_or v 0 0) (accepted_values e); work_is = w; index_is = x; starts_are = s }

    -- Accepted, the index is that of the list which it leaves in work, after the undoing, with zeros after it up to the buffer's end; and so are the starts.
    pub kept : Kept (length work) (length index) count work' index' starts'
    kept = end ran (sym fine ∙ went_on.0) (first_of went_on.1) (second_of went_on.1) (third_of went_on.1)

    -- They are those that build makes of that list, in an index buffer as long that was all zero.
    pub as_built : (list' starts₀ : List ℕ) → cubes_of list' ≡ kept.list → (k : ℕ) (x s : List ℕ)
        → Called (build_index n list' (zeros (length index)) starts₀) (accepted (k ∷ [])) (x ∷ s ∷ []) → (index' ≡ x) × (starts' ≡ s)
    as_built list' starts₀ e k x s built =
        let same_room : length (zeros (length index)) ≡ length index = length_zeros (length index) in
        let B = build_accepts_called n list' (zeros (length index)) starts₀ k x s built in
        let clear : drop 0 (zeros (length index)) ≡ zeros (length (zeros (length index)) - 0) = ap zeros (sym (sub-zero (length (zeros (length index))) ∙ same_room)) in (
          kept.index_is ∙ ap (λ (l : List Cube). image places (length index) (list_index l)) (sym e) ∙ ap (λ (r : ℕ). image places r (list_index (cubes_of list'))) (sym same_room)
              ∙ sym (B.0 ∙ written_image places places_lawful (zeros (length index)) 0 clear (list_index (cubes_of list')) B.1 zero-le),
          kept.starts_are ∙ ap list_starts (sym e) ∙ sym (starts_are n list' (zeros (length index)) starts₀ k x s built),
        )
