-- The demands for callers from C and Rust; of the calls on a map see MapFaces.antt. Every outcome that the contract of a face allows is a `Faced` (Contracts.antt): a call as from Rattle, whose
-- outcome the eight words are. Word 0 is 0 exactly when it was accepted; the words 2 to 7 of `dm_settle` are then the settlement's counts.
-- Assumes nothing.
use mathlib.Core.Path.{◌≡◌, refl, sym, ap, ◌∙◌}
use mathlib.Core.List.{List, [], ◌∷◌}
use Prim.Native.Nat.{ℕ, ◌≤◌}
use native.Mathlib.Omega.{arith}
use lib.ListN.{get_or}
use Rattle.std.specs.Prelude.{Option, Some, None, Ok}
use Rattle.records.specs.declared.Refusal.{Refusal}
use Rattle.records.specs.Answers.{Outcome, accepted, refused}
use Rattle.polarity.specs.declared.BestPolarity.{BestPolarity}
use Rattle.settling.specs.declared.Settlement.{Settlement}
use Rattle.settling.specs.Calls.{settled}
use Rattle.druthmoy.specs.Faces.{eight, words, settled_words, with_start}
use Rattle.promises.specs.Calls.{Call, check, value, reasons, truth_vector, coefficients, vector_back, write_form, best_polarity, write_tree, write_kronecker, run, build_index, group, run_indexed, write_script, compact, settle, wide_from_narrow, narrow_from_wide, shared_check, shared_value, shared_run, shared_settle, words_of, Faced}
use Rattle.promises.specs.Faced.{polarity_word, size_word, SettledFace}
use Rattle.promises.proofs.DemandOne.{refused_above_0}
use Rattle.promises.proofs.Calling.{accepted_settled}

-- ---- word 0, the place and the third answer

-- what holds of the words of an outcome, settle's, a group's and the others', holds of every call's
words_by : (o : Outcome) (P : List ℕ → Type 0) → P (words o) → P (settled_words o) → ((start : ℕ) → P (words (with_start start o))) → (c : Call) → P (words_of c o)
unfolding words_of
words_by o P w s g (check n list) = w
words_by o P w s g (value n list a) = w
words_by o P w s g (reasons n list a out) = w
words_by o P w s g (truth_vector n list out) = w
words_by o P w s g (coefficients n vector p out) = w
words_by o P w s g (vector_back n vector p out) = w
words_by o P w s g (write_form n vector p out) = w
words_by o P w s g (best_polarity n vector) = w
words_by o P w s g (write_tree n vector out) = w
words_by o P w s g (write_kronecker n vector out) = w
words_by o P w s g (run n list script work) = w
words_by o P w s g (build_index n list index starts) = w
words_by o P w s g (group n list index starts number) = g (get_or starts number 0)
words_by o P w s g (run_indexed n list script work index starts) = w
words_by o P w s g (write_script n list work script) = w
words_by o P w s g (compact n count script out) = w
words_by o P w s g (settle n list script work out) = s
words_by o P w s g (wide_from_narrow n list out) = w
words_by o P w s g (narrow_from_wide n list out) = w
words_by o P w s g (shared_check n list) = w
words_by o P w s g (shared_value n list a) = w
words_by o P w s g (shared_run n list script work) = w
words_by o P w s g (shared_settle n list script work out) = w

words_refused : (c : Call) (r : Refusal) → words_of c (refused r) ≡ eight r.number r.place (r.differing ∷ [])
unfolding words settled_words
words_refused c r = words_by (refused r) (λ w. w ≡ eight r.number r.place (r.differing ∷ [])) refl refl (λ start. refl) c

words_accepted : (c : Call) (v : List ℕ) → get_or (words_of c (accepted v)) 0 0 ≡ 0
unfolding words settled_words
words_accepted c v = words_by (accepted v) (λ w. get_or w 0 0 ≡ 0) refl refl (λ start. refl) c

module _ (c : Call) (answer : List ℕ) (buffers : List (List ℕ)) (F : Faced c answer buffers) where
  -- Refused: word 0 is the number, which is not 0, word 1 the place, word 2 the third answer, and the others are 0.
  pub face_refused : (r : Refusal) → F.outcome ≡ refused r → (answer ≡ eight r.number r.place (r.differing ∷ [])) × (1 ≤ r.number)
  face_refused r e = (
    F.told ∙ ap (words_of c) e ∙ words_refused c r,
    refused_above_0 c F.outcome buffers F.called r e,
  )

  -- Accepted: word 0 is 0 ..
  pub face_accepted : (v : List ℕ) → F.outcome ≡ accepted v → get_or answer 0 0 ≡ 0
  face_accepted v e = ap (λ (w : List ℕ). get_or w 0 0) (F.told ∙ ap (words_of c) e) ∙ words_accepted c v

  -- .. and where it is 0, the call was accepted.
  pub zero_accepted : get_or answer 0 0 ≡ 0 → (v : List ℕ) × (F.outcome ≡ accepted v)
  zero_accepted z = go F.outcome refl
    where
      go : (o : Outcome) → F.outcome ≡ o → (v : List ℕ) × (F.outcome ≡ accepted v)
      go (accepted v) e = (v, e)
      go (refused r) e = let t = face_refused r e in absurd (omega (arith, ap (λ (w : List ℕ). get_or w 0 0) t.0, t.1))

-- ---- settle

settled_counts : (s : Settlement) (f : Option BestPolarity) → s.fixed ≡ f
    → settled_words (settled (Ok s)) ≡ 0 ∷ 0 ∷ s.given ∷ s.peak ∷ s.script ∷ polarity_word f ∷ size_word f ∷ s.burned ∷ []
unfolding settled_words words
settled_counts s (Some best) e = rw e
settled_counts s None e = rw e

-- Where word 0 of `dm_settle` is 0, the map was settled: the words 2 to 7 are its counts, and the buffers are those of an accepted call, so that
-- demand 3 holds of the list that the output buffer begins with.
pub settled_face : (n : ℕ) (list script work out : List ℕ) (answer work' out' : List ℕ) → Faced (settle n list script work out) answer (work' ∷ out' ∷ [])
    → get_or answer 0 0 ≡ 0 → SettledFace n list script work out answer work' out'
unfolding words_of
settled_face n list script work out answer work' out' F z =
    let a = zero_accepted (settle n list script work out) answer (work' ∷ out' ∷ []) F z in
    let t = accepted_settled n list script work out a.0 (work' ∷ out' ∷ []) (record { answer = sym a.1 ∙ F.called.answer; left = F.called.left }) in
    record {
      settlement = t.0;
      called = t.1;
      counts = F.told ∙ ap settled_words (F.called.answer ∙ sym t.1.answer) ∙ settled_counts t.0 t.0.fixed refl;
    }
