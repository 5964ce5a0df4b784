-- What the laws of the field give at once. Assumes nothing.
use Rattle.std.proofs.Common.{◌≡◌, ℕ, zero, suc, ◌+◌, ◌*◌, ◌%◌, ◌<◌, ◌≢◌, sym, refl, ap, ◌∙◌, mod-eq_of_lt, suc-mul, add_comm as nat_add_comm, suc-add, zero-add as nat_zero_add, zero-mul as nat_zero_mul, arith}
use Rattle.arithmetic.specs.Laws.{Operations, Lawful, power, elements}

module _ {F : Operations} (laws : Lawful F) where
  infixl 60 ◌⊕◌
  infixl 70 ◌⊗◌
  open F use {plus as ◌⊕◌, times as ◌⊗◌}
  open laws use {times_below, plus_assoc, times_assoc, plus_comm, times_comm, distributes, plus_zero, times_one, plus_self, inverse_right}

  pub zero_plus : (a : ℕ) → 0 ⊕ a ≡ a % elements
  zero_plus a = plus_comm 0 a ∙ plus_zero a

  pub one_times : (a : ℕ) → 1 ⊗ a ≡ a % elements
  one_times a = times_comm 1 a ∙ times_one a

  pub inverse_of : (a : ℕ) → a ≢ 0 → a < elements → a ⊗ F.inverse a ≡ 1
  inverse_of a n h = inverse_right a (let e : a % elements ≡ a = mod-eq_of_lt h in omega arith)

  pub plus_zero_left : (a : ℕ) → a < elements → 0 ⊕ a ≡ a
  plus_zero_left a h = zero_plus a ∙ mod-eq_of_lt h

  pub plus_zero_right : (a : ℕ) → a < elements → a ⊕ 0 ≡ a
  plus_zero_right a h = plus_comm a 0 ∙ plus_zero_left a h

  pub times_one_left : (a : ℕ) → a < elements → 1 ⊗ a ≡ a
  times_one_left a h = one_times a ∙ mod-eq_of_lt h

  pub times_one_right : (a : ℕ) → a < elements → a ⊗ 1 ≡ a
  times_one_right a h = times_comm a 1 ∙ times_one_left a h

  pub times_zero_right : (a : ℕ) → a ⊗ 0 ≡ 0
  times_zero_right a = ap (λ z. a ⊗ z) (sym (plus_self 0)) ∙ distributes a 0 0 ∙ plus_self (a ⊗ 0)

  pub times_zero_left : (a : ℕ) → 0 ⊗ a ≡ 0
  times_zero_left a = times_comm 0 a ∙ times_zero_right a

  pub distrib_right : (a b c : ℕ) → (a ⊕ b) ⊗ c ≡ (a ⊗ c) ⊕ (b ⊗ c)
  distrib_right a b c = times_comm (a ⊕ b) c ∙ distributes c a b ∙ cc (times_comm c a, times_comm c b)

  pub plus_left_comm : (a b c : ℕ) → a ⊕ (b ⊕ c) ≡ b ⊕ (a ⊕ c)
  plus_left_comm a b c = cc (plus_assoc a b c, plus_assoc b a c, plus_comm a b)

  pub times_left_comm : (a b c : ℕ) → a ⊗ (b ⊗ c) ≡ b ⊗ (a ⊗ c)
  times_left_comm a b c = cc (times_assoc a b c, times_assoc b a c, times_comm a b)

  pub plus_self_left : (a b : ℕ) → b < elements → a ⊕ (a ⊕ b) ≡ b
  plus_self_left a b h = sym (plus_assoc a a b) ∙ ap (λ z. z ⊕ b) (plus_self a) ∙ plus_zero_left b h

  pub same_of_sum_zero : (a b : ℕ) → a < elements → b < elements → a ⊕ b ≡ 0 → a ≡ b
  same_of_sum_zero a b ha hb e = sym (plus_zero_right a ha) ∙ ap (λ z. a ⊕ z) (sym e) ∙ plus_self_left a b hb

  -- a product with a factor that is not zero
  pub zero_of_times : (a b : ℕ) → a < elements → b < elements → a ≢ 0 → a ⊗ b ≡ 0 → b ≡ 0
  zero_of_times a b ha hb n e =
      let i : a ⊗ F.inverse a ≡ 1 = inverse_of a n ha in
      cc (times_one_left b hb, times_comm a (F.inverse a), times_assoc (F.inverse a) a b, times_zero_right (F.inverse a))

  pub power_below : (x j : ℕ) → power F x j < elements
  power_below x zero = omega arith
  power_below x (suc j) = times_below x (power F x j)

  pub power_add : (x i j : ℕ) → power F x (i + j) ≡ power F x i ⊗ power F x j
  power_add x zero j = rw nat_zero_add (sym (times_one_left _ (power_below x j)))
  power_add x (suc i) j = rw (suc-add, power_add x i j, power) (sym (times_assoc x _ _))

  pub power_times : (x y j : ℕ) → power F (x ⊗ y) j ≡ power F x j ⊗ power F y j
  power_times x y zero = sym (times_one_left 1 (omega arith))
  power_times x y (suc j) = rw (power_times x y j, power) (simp (times_assoc, times_comm, times_left_comm))

  pub power_power : (x i j : ℕ) → power F (power F x i) j ≡ power F x (j * i)
  power_power x i zero = rw nat_zero_mul refl
  power_power x i (suc j) = rw (power, power_power x i j, suc-mul, nat_add_comm (j * i) i) (sym (power_add x i (j * i)))
