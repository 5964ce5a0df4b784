-- What it means that a call has no fault, and what its first fault is. Assumes nothing.
use Rattle.std.proofs.Common.{◌≡◌, ℕ, ◌<◌, ◌≤◌, Bool, true, false, not, eqb, ltb, List, [], ◌∷◌, ◌++◌, length, ℤ, Some, refl, ap, ◌∙◌, inl, inr, arith}
use Rattle.std.specs.List.{prefix_len}
use Rattle.std.proofs.lemmas.List.Sums.{prefix_len_is, prefix_len_passes}
use Rattle.std.proofs.lemmas.Bool.{eqb-true, eq-eqb, ne_eqb, ltb-false, lt-ltb, le-ltb, both_ways, false_from_ne_true}
use Rattle.std.proofs.lemmas.Bool.Decides.{nat_tests}
use Rattle.blocks.specs.Characters.{Character, Characters, FirstNoCharacter}
use Rattle.blocks.specs.declared.faults.BlockFault.{BlockFault}
use Rattle.lines.specs.LineCodes.{is_line_symbol}
use Rattle.codec.specs.Calls.{send, sender_rest, receive, receiver_rest, is_character, fault_if, without_lock, wrong_length, wrong_number, faults, first_of}
use Rattle.codec.specs.declared.lock.Lock.{Lock}
use Rattle.codec.specs.declared.lock.Lock.TheVariants.{Locked, Lost}
use Rattle.codec.specs.declared.faults.LineFault.{LineFault}
use Rattle.codec.specs.declared.faults.EndFault.{EndFault}

abbrev pub Starts : List EndFault → EndFault → Type 0
Starts found fault = first_of found ≡ Some fault

-- characters by test

pub test_of : (c : ℕ) → Character c → is_character c ≡ true
test_of c (inl h) = grind (arith, nat_tests)
test_of c (inr (inl h)) = grind (arith, nat_tests)
test_of c (inr (inr (inl h))) = grind (arith, nat_tests)
test_of c (inr (inr (inr (inl h)))) = grind (arith, nat_tests)
test_of c (inr (inr (inr (inr h)))) = grind (arith, nat_tests)

pub of_test : (c : ℕ) → is_character c ≡ true → Character c
of_test c e = grind (arith, nat_tests)

-- the number that leads a list of characters, and where the first that is none stands

leading_all : (cs : List ℕ) → Characters cs → prefix_len is_character cs ≡ length cs
leading_all cs h = prefix_len_is is_character cs (length cs) 0 (omega arith) (λ k l. test_of _ (h k l)) (λ l. absurd (omega arith))

leading_first : (cs : List ℕ) (place : ℕ) → FirstNoCharacter cs place → prefix_len is_character cs ≡ place
leading_first cs place f = prefix_len_is is_character cs place 0 (omega (arith, f.inside)) (λ k l. test_of _ (f.before k l)) (λ l. false_from_ne_true _ (λ t. f.there (of_test _ t)))

all_leading : (cs : List ℕ) → length cs ≤ prefix_len is_character cs → Characters cs
all_leading cs h k l = of_test _ (prefix_len_passes is_character cs k 0 (omega arith))

-- no fault among several

left_none : (xs ys : List EndFault) → xs ++ ys ≡ [] → xs ≡ []
left_none [] ys e = refl
left_none (x ∷ xs) ys e = let z : ◌≡◌ {A = ℕ} 0 1 = cc in absurd (omega arith)

right_none : (xs ys : List EndFault) → xs ++ ys ≡ [] → ys ≡ []
right_none [] ys e = e
right_none (x ∷ xs) ys e = let z : ◌≡◌ {A = ℕ} 0 1 = cc in absurd (omega arith)

unpassed : (b : Bool) (fault : EndFault) → fault_if b fault ≡ [] → b ≡ false
unpassed true fault e = let z : ◌≡◌ {A = ℕ} 0 1 = cc in absurd (omega arith)
unpassed false fault e = refl

right_length : {X : Type 0} (buffer right : ℕ) (xs : List X) → wrong_length buffer right xs ≡ [] → length xs ≡ right
right_length buffer right xs e = go (eqb (length xs) right) refl (unpassed (not (eqb (length xs) right)) (EndFault.Length buffer) e)
  where
    go : (b : Bool) → eqb (length xs) right ≡ b → not b ≡ false → length xs ≡ right
    go true f g = eqb-true (length xs) right f
    go false f g = absurd (both_ways true g refl)

-- what a send without a fault is given

pub record Sendable (characters : List ℕ) (symbol : ℕ) (line : List ℤ) : Type 0 where
  pub full : length characters ≡ 450
  pub room : length line ≡ 2700
  pub nine_bits : symbol < 512
  pub valid : Characters characters

pub sendable : (lock : Lock) (characters : List ℕ) (symbol : ℕ) (line : List ℤ) → faults lock (send characters symbol line) ≡ [] → Sendable characters symbol line
unfolding faults
sendable lock characters symbol line e =
    let a = wrong_length 0 450 characters in
    let b = wrong_length 1 2700 line in
    let c = fault_if (ltb 511 symbol) EndFault.ManagementSymbol in
    let d = wrong_number is_character (λ place. EndFault.Block (BlockFault.NoCharacter place)) characters in
    let bs : b ++ (c ++ (d ++ [])) ≡ [] = right_none a (b ++ (c ++ (d ++ []))) e in
    let cs : c ++ (d ++ []) ≡ [] = right_none b (c ++ (d ++ [])) bs in
    let ds : d ++ [] ≡ [] = right_none c (d ++ []) cs in
    record {
      full = right_length 0 450 characters (left_none a (b ++ (c ++ (d ++ []))) e);
      room = right_length 1 2700 line (left_none b (c ++ (d ++ [])) bs);
      nine_bits = omega (arith, ltb-false 511 symbol (unpassed (ltb 511 symbol) EndFault.ManagementSymbol (left_none c (d ++ []) cs)));
      valid = all_leading characters (ltb-false (prefix_len is_character characters) (length characters) (unpassed (ltb (prefix_len is_character characters) (length characters)) (EndFault.Block (BlockFault.NoCharacter (prefix_len is_character characters))) (left_none d [] ds)));
    }

-- a receiver's lock, and its rest

locked : (lock : Lock) → (lock ≡ Lost → ⊥) → without_lock lock ≡ []
locked (Locked bad) n = refl
locked Lost n = absurd (n refl)

pub receiver_rest_found : (lock : Lock) → (lock ≡ Lost → ⊥) → faults lock receiver_rest ≡ []
unfolding faults
receiver_rest_found lock n = rw (locked lock n)

pub receiver_rest_lost : (lock : Lock) → lock ≡ Lost → Starts (faults lock receiver_rest) EndFault.NoLock
unfolding faults
receiver_rest_lost lock e = rw e

-- the first fault of a call, check by check

length_right : {X : Type 0} (buffer right : ℕ) (xs : List X) → length xs ≡ right → wrong_length buffer right xs ≡ []
length_right buffer right xs e = ap (λ b. fault_if (not b) (EndFault.Length buffer)) (eq-eqb (length xs) right e)

length_wrong : {X : Type 0} (buffer right : ℕ) (xs : List X) → (length xs ≡ right → ⊥) → wrong_length buffer right xs ≡ EndFault.Length buffer ∷ []
length_wrong buffer right xs e = ap (λ b. fault_if (not b) (EndFault.Length buffer)) (ne_eqb (length xs) right e)

numbers_right : {X : Type 0} (kind : X → Bool) (fault : ℕ → EndFault) (xs : List X) → prefix_len kind xs ≡ length xs → wrong_number kind fault xs ≡ []
numbers_right kind fault xs e = ap (λ b. fault_if b (fault (prefix_len kind xs))) (le-ltb (prefix_len kind xs) (length xs) (omega arith))

number_wrong : {X : Type 0} (kind : X → Bool) (fault : ℕ → EndFault) (xs : List X) (place : ℕ) → prefix_len kind xs ≡ place → place < length xs → wrong_number kind fault xs ≡ fault place ∷ []
number_wrong kind fault xs place e h = ap (λ b. fault_if b (fault (prefix_len kind xs))) (lt-ltb (prefix_len kind xs) (length xs) (omega arith)) ∙ ap (λ p. fault p ∷ []) e

module _ (lock : Lock) (characters : List ℕ) (symbol : ℕ) (line : List ℤ) where
  abbrev asked : List EndFault
  asked = faults lock (send characters symbol line)

  abbrev no_character : ℕ → EndFault
  no_character place = EndFault.Block (BlockFault.NoCharacter place)

  pub send_characters_length : (length characters ≡ 450 → ⊥) → Starts asked (EndFault.Length 0)
  unfolding faults
  send_characters_length n = rw (length_wrong 0 450 characters n)

  pub send_line_length : length characters ≡ 450 → (length line ≡ 2700 → ⊥) → Starts asked (EndFault.Length 1)
  unfolding faults
  send_line_length e n = rw (length_right 0 450 characters e, length_wrong 1 2700 line n)

  pub send_symbol : length characters ≡ 450 → length line ≡ 2700 → 511 < symbol → Starts asked EndFault.ManagementSymbol
  unfolding faults
  send_symbol e f n = rw (length_right 0 450 characters e, length_right 1 2700 line f, lt-ltb 511 symbol n)

  pub send_no_character : (place : ℕ) → length characters ≡ 450 → length line ≡ 2700 → symbol ≤ 511 → FirstNoCharacter characters place → Starts asked (no_character place)
  unfolding faults
  send_no_character place e f s n = rw (length_right 0 450 characters e, length_right 1 2700 line f, le-ltb 511 symbol s, number_wrong is_character no_character characters place (leading_first characters place n) n.inside)

  pub send_no_fault : length characters ≡ 450 → length line ≡ 2700 → symbol ≤ 511 → Characters characters → asked ≡ []
  unfolding faults
  send_no_fault e f s v = rw (length_right 0 450 characters e, length_right 1 2700 line f, le-ltb 511 symbol s, numbers_right is_character no_character characters (leading_all characters v))

module _ (lock : Lock) (line : List ℤ) where
  pub rest_line_length : (length line ≡ 2700 → ⊥) → Starts (faults lock (sender_rest line)) (EndFault.Length 0)
  unfolding faults
  rest_line_length n = rw (length_wrong 0 2700 line n)

  pub rest_no_fault : length line ≡ 2700 → faults lock (sender_rest line) ≡ []
  unfolding faults
  rest_no_fault e = rw (length_right 0 2700 line e)

module _ (line : List ℤ) (characters places : List ℕ) where
  abbrev received : Lock → List EndFault
  received lock = faults lock (receive line characters places)

  abbrev no_line_symbol : ℕ → EndFault
  no_line_symbol place = EndFault.Line (LineFault.NoLineSymbol place)

  pub receive_no_lock : (lock : Lock) → lock ≡ Lost → Starts (received lock) EndFault.NoLock
  unfolding faults
  receive_no_lock lock e = rw e

  pub receive_line_length : (lock : Lock) → (lock ≡ Lost → ⊥) → (length line ≡ 2700 → ⊥) → Starts (received lock) (EndFault.Length 0)
  unfolding faults
  receive_line_length lock l n = rw (locked lock l, length_wrong 0 2700 line n)

  pub receive_characters_length : (lock : Lock) → (lock ≡ Lost → ⊥) → length line ≡ 2700 → (length characters ≡ 450 → ⊥) → Starts (received lock) (EndFault.Length 1)
  unfolding faults
  receive_characters_length lock l e n = rw (locked lock l, length_right 0 2700 line e, length_wrong 1 450 characters n)

  pub receive_places_length : (lock : Lock) → (lock ≡ Lost → ⊥) → length line ≡ 2700 → length characters ≡ 450 → (length places ≡ 22 → ⊥) → Starts (received lock) (EndFault.Length 2)
  unfolding faults
  receive_places_length lock l e f n = rw (locked lock l, length_right 0 2700 line e, length_right 1 450 characters f, length_wrong 2 22 places n)

  pub receive_no_line_symbol : (lock : Lock) → (lock ≡ Lost → ⊥) → (place : ℕ) → length line ≡ 2700 → length characters ≡ 450 → length places ≡ 22 → prefix_len is_line_symbol line ≡ place → place < length line → Starts (received lock) (no_line_symbol place)
  unfolding faults
  receive_no_line_symbol lock k place e f h n l = rw (locked lock k, length_right 0 2700 line e, length_right 1 450 characters f, length_right 2 22 places h, number_wrong is_line_symbol no_line_symbol line place n l)

  pub receive_no_fault : (lock : Lock) → (lock ≡ Lost → ⊥) → length line ≡ 2700 → length characters ≡ 450 → length places ≡ 22 → prefix_len is_line_symbol line ≡ length line → received lock ≡ []
  unfolding faults
  receive_no_fault lock l e f h n = rw (locked lock l, length_right 0 2700 line e, length_right 1 450 characters f, length_right 2 22 places h, numbers_right is_line_symbol no_line_symbol line n)
