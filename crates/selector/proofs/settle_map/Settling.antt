-- Settling the lists of a map in turn: what the loop keeps.
-- Assumes nothing.
use mathlib.Core.Path.{◌≡◌, refl, sym, ap, ap₂, ◌∙◌, subst}
use mathlib.Core.List.{List, ◌++◌, append-nil}
use Prim.Native.Nat.{ℕ, ◌+◌, ◌-◌, ◌*◌, ◌≤◌, ◌<◌}
use native.Mathlib.Omega.{arith}
use borrow.Rule.Slice.PartMut.{put_mid, Post-is}
use lib.ListN.{length, get_or, take, drop, set, replicate, length-append, length-take, length-drop}
use lib.Seq.{length-take-le, drop-length}
use Rattle.bits.specs.Below.{sum_below}
use Rattle.bits.proofs.Below.{sum_more}
use Rattle.bits.proofs.Front.{Front, front_none, front_more}
use Rattle.records.specs.declared.Refusal.{Refusal}
use Rattle.records.specs.Answers.{Accepts, refused}
use Rattle.records.specs.Records.{image, filled, flat, zeros}
use Rattle.records.proofs.Filling.{length_zeros}
use Rattle.records.proofs.Images.{flat_append}
use Rattle.cube.specs.declared.Cube.{Cube}
use Rattle.cube.specs.Lists.{record_width, cubes}
use Rattle.polarity.specs.Cost.{cost}
use Rattle.polarity.proofs.Ranks.{cost_most}
use Rattle.settling.specs.Calls.{settle_outcome, settle_out}
use Rattle.std.specs.Prelude.{Result, Ok, Err}
use Rattle.selector.specs.Refusals.{of_list}
use Rattle.selector.specs.declared.ByList.{ByList}
use Rattle.selector.specs.declared.settle_map.Burned.{Burned}
use Rattle.selector.specs.Maps.{most_lists, starts, join_below, total_cost, each_of}
use Rattle.selector.specs.Answers.{MapOutcome, map_accepted, list_refused, after_map, map_told}
use Rattle.selector.specs.Calls.{Job, list_count, list_at, script_at, settle_at, burned_at, size_at, settle_turns, burned_lengths, burned_bytes}
use Rattle.selector.specs.Turns.{PartBurned, PartTold, Settleable, SettledTurns}
use Rattle.selector.proofs.Parts.{sum_zero, sum_next, start_next, start_before, part_length, join_next, each_is, fronts}
use Rattle.selector.proofs.Turning.{Passing, passing_none, passing_more, passing_refused, passing_all}
use Rattle.selector.proofs.settle_map.Burning.{flat_long, burnt_image, burnt_fits}

-- the first k lists are settled: their burned lists stand end to end at the front of the output
pub record Settling (j : Job) (out₀ work out sizes : List ℕ) (total to k : ℕ) : Type 0 where
  pub to_is : to ≡ record_width * length (join_below k (burned_at j))
  pub to_le : to ≤ starts j.lengths k
  pub total_is : total ≡ sum_below k (λ i. cost (burned_at j i))
  pub total_le : total ≤ to
  pub front : take to out ≡ flat cubes.enc (join_below k (burned_at j))
  pub out_long : length out ≡ length out₀
  pub work_long : length work ≡ j.work
  pub sizes_are : Front (size_at j) (zeros most_lists) sizes k
  pub passing : Passing (settle_at j) k

module _ (j : Job) (out₀ : List ℕ) where
  pub settling_none : (work : List ℕ) → length work ≡ j.work → (k : ℕ) → k ≡ 0 → Settling j out₀ work out₀ (zeros most_lists) 0 0 k
  unfolding join_below
  settling_none work ew k ek = subst (Settling j out₀ work out₀ (zeros most_lists) 0 0) (sym ek) (record {
    to_is = refl;
    to_le = omega arith;
    total_is = sym (sum_zero (λ i. cost (burned_at j i)));
    total_le = omega arith;
    front = refl;
    out_long = refl;
    work_long = ew;
    sizes_are = front_none (size_at j) (zeros most_lists);
    passing = passing_none (settle_at j);
  })

  module _ (m : Settleable j (length out₀)) (work out sizes : List ℕ) (total to k : ℕ) (r : Settling j out₀ work out sizes total to k) where
    module _ (h : k < list_count j) (list script : List ℕ) (list_is : list ≡ list_at j k) (script_is : script ≡ script_at j k) where
      size_is : length list ≡ get_or j.lengths k 0
      size_is = ap length list_is ∙ part_length j.lengths j.lists k h m.lists_are.adds

      -- the part of the output that is lent
      pub settling_room : to + length list ≤ length out
      settling_room = omega (arith, size_is, start_before j.lengths k (list_count j) h, r.to_le, m.lists_are.adds, m.room, r.out_long)

      pub settling_index : k < most_lists
      settling_index = omega (arith, m.lists_are.few)

      module _ (room : ℕ) (er : room ≡ to + length list) (x : Result Burned Refusal) (ex : PartTold j.n list script (length work) (room - to) x) where
        room_is : room - to ≡ get_or j.lengths k 0
        room_is = omega (arith, size_is)

        told : PartTold j.n (list_at j k) (script_at j k) j.work (get_or j.lengths k 0) x
        told =
            subst (λ (o : ℕ). PartTold j.n (list_at j k) (script_at j k) j.work o x) room_is
            (subst (λ (w : ℕ). PartTold j.n (list_at j k) (script_at j k) w (room - to) x) r.work_long
            (subst (λ (s : List ℕ). PartTold j.n (list_at j k) s (length work) (room - to) x) script_is
            (subst (λ (l : List ℕ). PartTold j.n l script (length work) (room - to) x) list_is ex)))

        pub settling_refused : (q : Refusal) → x ≡ Err q → (out' : List ℕ) (z : ℕ) → out' ≡ zeros z → z ≡ length out₀ → (s : ByList)
            → (s.answer ≡ Err (of_list q k)) × (s.each ≡ zeros most_lists) → SettledTurns j out₀ s out'
        unfolding settle_turns settle_at
        settling_refused q e out' z ez el s w =
            let found : settle_at j k ≡ refused q = subst (PartTold j.n (list_at j k) (script_at j k) j.work (get_or j.lengths k 0)) e told in
            let is : settle_turns j ≡ list_refused q k =
            passing_refused (settle_at j) (list_count j) k q (map_accepted (total_cost (list_count j) (burned_at j))) r.passing h found in
            record {
              answer = ap map_told w.0 ∙ sym is;
              lengths = w.1 ∙ ap (λ (o : MapOutcome). after_map o (burned_lengths j) (zeros most_lists)) (sym is);
              out_is = ez ∙ ap zeros el ∙ ap (λ (o : MapOutcome). after_map o (burned_bytes j (length out₀)) out₀) (sym is);
            }

        module _ (bytes price : ℕ) (e : x ≡ Ok (record { bytes = bytes; cost = price })) where
          part : PartBurned j.n (list_at j k) (script_at j k) j.work (get_or j.lengths k 0) bytes price
          part = subst (PartTold j.n (list_at j k) (script_at j k) j.work (get_or j.lengths k 0)) e told

          bytes_are : bytes ≡ record_width * length (burned_at j k)
          unfolding burned_at
          bytes_are = part.bytes_are

          price_is : price ≡ cost (burned_at j k)
          unfolding burned_at
          price_is = part.price_is

          accepted_here : Accepts (settle_at j k)
          unfolding settle_at
          accepted_here = part.passed

          lent : List ℕ
          lent = take (room - to) (drop to out)

          lent_long : length lent ≡ get_or j.lengths k 0
          unfolding lent
          lent_long = simp (length-take, length-drop) (omega (arith, settling_room, size_is))

          passed : Accepts (settle_outcome j.n (list_at j k) (script_at j k) j.work (length lent))
          passed =
              subst (λ (o : ℕ). Accepts (settle_outcome j.n (list_at j k) (script_at j k) j.work o)) (sym lent_long) part.passed

          bytes_fit : bytes ≤ get_or j.lengths k 0
          unfolding burned_at
          bytes_fit = omega (arith, burnt_fits j.n (list_at j k) (script_at j k) j.work lent passed, lent_long, bytes_are)

          pub settling_to : to + bytes ≤ length out
          settling_to = omega (arith, settling_room, size_is, bytes_fit)

          pub settling_total : total + price ≤ length out
          settling_total = omega (arith, settling_to, r.total_le, price_is, cost_most (burned_at j k), bytes_are)

          module _ (out' : List ℕ)
              (eo : out' ≡ take to out ++ (settle_out j.n list script (length work) (take (room - to) (drop to out)) ++ drop room out)) where
            out_is : out' ≡ take to out ++ (image cubes (length lent) (burned_at j k) ++ drop room out)
            unfolding lent burned_at
            out_is =
                eo
                ∙ ap₂ (λ (l s : List ℕ). take to out ++ (settle_out j.n l s (length work) lent ++ drop room out)) list_is script_is
                ∙ ap (λ (w : ℕ). take to out ++ (settle_out j.n (list_at j k) (script_at j k) w lent ++ drop room out)) r.work_long
                ∙ ap (λ (p : List ℕ). take to out ++ (p ++ drop room out)) (burnt_image j.n (list_at j k) (script_at j k) j.work lent passed)

            front_is : take (to + bytes) out' ≡ flat cubes.enc (join_below (k + 1) (burned_at j))
            unfolding image filled
            front_is =
                ap (take (to + bytes)) out_is
                ∙ fronts (take to out) (flat cubes.enc (burned_at j k)) (replicate (length lent - length (flat cubes.enc (burned_at j k))) 0) (drop room out)
                to bytes (length-take-le to out (omega (arith, settling_room))) (flat_long (burned_at j k) ∙ sym bytes_are)
                ∙ ap (λ (p : List ℕ). p ++ flat cubes.enc (burned_at j k)) r.front
                ∙ sym (flat_append cubes.enc (join_below k (burned_at j)) (burned_at j k))
                ∙ ap (flat cubes.enc) (sym (join_next (burned_at j) k))

            pub settling_more : length out' ≡ length out → (work' : List ℕ) → length work' ≡ length work
                → (next : ℕ) → next ≡ k + 1 → Settling j out₀ work' out' (set sizes k bytes) (total + price) (to + bytes) next
            settling_more el work' ew next en = subst (Settling j out₀ work' out' (set sizes k bytes) (total + price) (to + bytes)) (sym en) (record {
              to_is = omega (arith, r.to_is, bytes_are, ap length (join_next (burned_at j) k), length-append (join_below k (burned_at j)) (burned_at j k));
              to_le = omega (arith, r.to_le, bytes_fit, start_next j.lengths k);
              total_is = ap₂ (λ (p q : ℕ). p + q) r.total_is price_is ∙ sym (sum_next (λ i. cost (burned_at j i)) k);
              total_le = omega (arith, r.total_le, price_is, cost_most (burned_at j k), bytes_are);
              front = front_is;
              out_long = el ∙ r.out_long;
              work_long = ew ∙ r.work_long;
              sizes_are = front_more (size_at j) (zeros most_lists) sizes k r.sizes_are bytes (omega (arith, settling_index, r.sizes_are.long, length_zeros most_lists)) bytes_are;
              passing = passing_more (settle_at j) k r.passing accepted_here;
            })

    -- the output has room for the burned lists: the bytes after them are cleared at the end
    pub settling_rest : k ≤ list_count j → to ≤ length out
    settling_rest w = omega (arith, r.to_le, sum_more k (list_count j) (λ i. get_or j.lengths i 0) w, m.lists_are.adds, m.room, r.out_long)

    pub settling_done : k ≤ list_count j → list_count j ≤ k → (p : List ℕ) → p ≡ zeros (length (take (length out - to) (drop to out)))
        → (s : ByList) → map_told s.answer ≡ map_accepted total → s.each ≡ sizes → SettledTurns j out₀ s (put_mid to (length out - to) out p)
    unfolding settle_turns total_cost burned_lengths burned_bytes image filled
    settling_done w h p ep s ea es =
        let e : k ≡ list_count j = omega arith in
        let is : settle_turns j ≡ map_accepted (total_cost (list_count j) (burned_at j)) = passing_all (settle_at j) (list_count j) k _ r.passing w h in
        let rest : length (take (length out - to) (drop to out)) ≡ length out - to = simp (length-take, length-drop) (omega arith) in
        let l : List Cube = join_below k (burned_at j) in
        let long : length out - to ≡ length out₀ - length (flat cubes.enc l) = omega (arith, r.out_long, r.to_is, flat_long l) in
        record {
          answer = ea ∙ ap map_accepted (r.total_is ∙ ap (λ (i : ℕ). sum_below i (λ i. cost (burned_at j i))) e) ∙ sym is;
          lengths =
              es ∙ each_is (size_at j) sizes k r.sizes_are ∙ ap (λ (i : ℕ). each_of i (size_at j)) e
              ∙ ap (λ (o : MapOutcome). after_map o (burned_lengths j) (zeros most_lists)) (sym is);
          out_is =
              ap₂ (λ (x y : List ℕ). take to out ++ (x ++ y)) (ep ∙ ap zeros (rest ∙ long)) (Post-is to (length out) out (settling_rest w) ∙ drop-length out)
              ∙ ap (λ (x : List ℕ). take to out ++ x) (append-nil (zeros (length out₀ - length (flat cubes.enc l))))
              ∙ ap (λ (x : List ℕ). x ++ zeros (length out₀ - length (flat cubes.enc l))) r.front
              ∙ ap (λ (i : ℕ). image cubes (length out₀) (join_below i (burned_at j))) e
              ∙ ap (λ (o : MapOutcome). after_map o (burned_bytes j (length out₀)) out₀) (sym is);
        }
