-- One word among others is written. Assumes nothing.
use Rattle.std.proofs.Common.{◌≡◌, ℕ, ◌+◌, ◌-◌, ◌*◌, ◌<◌, ◌≤◌, List, length, take, drop, sym, ap, ◌∙◌, arith}
use borrow.Rule.Slice.PartMut.{put_mid}
use Rattle.std.proofs.lemmas.Slice.{between_is, take-put_mid_below, drop-put_mid, between-put_mid}
use Rattle.code_c.specs.Batches.{word_at}

module _ (xs ys : List ℕ) (k : ℕ) (within : 450 * k ≤ length xs) (long : length ys ≡ 450 * k + 450 - 450 * k) where
  pub written : word_at (put_mid (450 * k) (450 * k + 450 - 450 * k) xs ys) k ≡ ys
  written = between-put_mid (450 * k) (450 * k + 450 - 450 * k) xs ys (450 * k + 450) within long

  pub unchanged_before : (j : ℕ) → j < k → word_at (put_mid (450 * k) (450 * k + 450 - 450 * k) xs ys) j ≡ word_at xs j
  unchanged_before j h =
      between_is (put_mid (450 * k) (450 * k + 450 - 450 * k) xs ys) (450 * j) (450 * j + 450)
      ∙ ap (drop (450 * j)) (take-put_mid_below (450 * k) (450 * k + 450 - 450 * k) xs ys (450 * j + 450) (omega arith) within)
      ∙ sym (between_is xs (450 * j) (450 * j + 450))

  pub unchanged_after : (j : ℕ) → k < j → word_at (put_mid (450 * k) (450 * k + 450 - 450 * k) xs ys) j ≡ word_at xs j
  unchanged_after j h = ap (take (450 * j + 450 - 450 * j)) (drop-put_mid (450 * k) (450 * k + 450 - 450 * k) xs ys (450 * j) (omega arith) within long)
