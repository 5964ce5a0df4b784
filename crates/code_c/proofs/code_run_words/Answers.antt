use Rattle.std.proofs.Common.{◌≡◌, ℕ, ◌+◌, ◌-◌, ◌*◌, ◌<◌, ◌≤◌, List, length, get_or, take, drop, set, sym, ◌∙◌, subst, arith, length-drop, length-take}
use native.Mathlib.Decide.{ℕ_discrete}
use borrow.Rule.Slice.PartMut.{put_mid}
use Rattle.std.proofs.lemmas.List.{get_or-set_same, get_or-set_other}
use Rattle.arithmetic.specs.Polynomials.{polynomials}
use Rattle.code_c.specs.Batches.{word_at, Answered}
use Rattle.code_c.proofs.Parts.{written, unchanged_before, unchanged_after}
use Rattle.code_c.proofs.code_run_words.Goals as goal

pub loop-k-preserved : goal.loop-k-preserved
loop-k-preserved c =
    let k = c.loop-k.k in
    let xs = c.loop-k.words in
    let ys = c.run_one.new.word in
    let old = c.args.words.now in
    let told = c.loop-k.answer-items in
    let r = c.run_one.result in
    let counted = length-take c.min-count.result c.args.answers.now in
    let low : 450 * k ≤ length xs = omega (arith, counted) in
    let room : k < length told = omega arith in
    let part : length (take (450 * k + 450 - 450 * k) (drop (450 * k) xs)) ≡ 450 * k + 450 - 450 * k = simp (length-take, length-drop) (omega arith) in
    let long : length ys ≡ 450 * k + 450 - 450 * k = c.run_one.auto.word ∙ part in
    let P : List ℕ → List ℕ → ℕ → Type 0 = Answered polynomials c.args.completing in (
      λ j h l. elim (ℕ_discrete j k) [
        | yes e ↦ subst (λ i. P (word_at old i) (word_at (put_mid (450 * k) (450 * k + 450 - 450 * k) xs ys) i) (get_or (set told k r) i 0)) (sym e)
            (subst (P (word_at old k) _) (sym (get_or-set_same told k r 0 room))
            (subst (λ w. P (word_at old k) w r) (sym (written xs ys k low long)) (subst (λ w. P w ys r) (c.loop-k.invariant.1 k (omega arith)) c.run_one.ensures)))
        | no n ↦
            subst (P (word_at old j) _) (sym (get_or-set_other told k j r 0 n))
            (subst (λ w. P (word_at old j) w (get_or told j 0)) (sym (unchanged_before xs ys k low long j (omega arith))) (c.loop-k.invariant.0 j (omega arith) l))
      ],
      λ j h. unchanged_after xs ys k low long j (omega arith) ∙ c.loop-k.invariant.1 j (omega arith),
    )
