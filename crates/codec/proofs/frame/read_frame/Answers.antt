use Rattle.std.proofs.Common.{◌≡◌, ℕ, ◌*◌, ◌+◌, ◌-◌, ◌/◌, ◌<◌, List, [], length, get_or, take, drop, ap, ◌∙◌, subst, arith}
use Rattle.std.proofs.lemmas.List.{length-take-le, length-drop}
use Rattle.std.specs.Simd.{first_chunks}
use Rattle.codec.proofs.FrameReading as reading
use Rattle.code.proofs.Filled.{chunk_at}
use Rattle.codec.proofs.frame.read_frame.Goals as goal
use Rattle.codec.proofs.frame.read_frame.Goals.{in-Err, in_default}

-- chunk k of the front of a word
nine_at : (word : List ℕ) (chunks : List (List ℕ)) (k : ℕ) → length word ≡ 450 → chunks ≡ first_chunks 9 (length (take 405 word) / 9) (take 405 word) → k < 45 → get_or chunks k [] ≡ take 9 (drop (9 * k) word)
nine_at word chunks k full e h =
    let long : length (take 405 word) ≡ 405 = length-take-le 405 word (omega (arith, full)) in
    ap (λ c. get_or c k []) e ∙ chunk_at 9 _ (take 405 word) k (omega (arith, long)) ∙ reading.in_front 9 405 (9 * k) word (omega arith)

pub invariant_of-packed : goal.invariant_of-packed
invariant_of-packed c =
    let word = c.args.word.now.symbols in
    let k = c.loop-k.k in
    let within : k < 45 = omega (arith, c.as_chunks.ensures.front_len, c.loop-k-test.true, length-take-le 405 word (omega (arith, c.args.word.now.elements.full))) in
    let part = nine_at word c.as_chunks.result.0.now k c.args.word.now.elements.full c.as_chunks.ensures.front within in
    record {
      nine = rw part (length-take-le 9 (drop (9 * k) word) (omega (arith, length-drop (9 * k) word, c.args.word.now.elements.full)));
      small = rw part (reading.part_small word (9 * k) 9 c.args.word.now.elements.small);
    }

pub loop-k-preserved : goal.loop-k-preserved
loop-k-preserved c =
    let word = c.args.word.now.symbols in
    let k = c.loop-k.k in
    let within : k < 45 = omega (arith, c.as_chunks.ensures.front_len, c.loop-k-test.true, length-take-le 405 word (omega (arith, c.args.word.now.elements.full))) in
    let nine = nine_at word c.as_chunks.result.0.now k c.args.word.now.elements.full c.as_chunks.ensures.front within in
    elim c.match-read_ten.branch [
      | in-Err w ↦ rw (w.fault-is, w.or-fault.ensures) (reading.read_invalid word c.loop-k.characters _ c.read_ten.new.ten k (10 * k + 10 - 10 * k) c.loop-k.invalid c.loop-k.fault within nine (omega arith) c.loop-k.invariant w.in-Err.found c.match-read_ten.invalid w.in-Err.ensures w.invalid-is)
      | in_default w ↦ rw (w.fault-is, w.invalid-is) (reading.read_valid word c.loop-k.characters _ c.read_ten.new.ten k (10 * k + 10 - 10 * k) c.loop-k.invalid c.loop-k.fault within nine (omega arith) c.loop-k.invariant w.in_default.ensures)
    ]

pub returns : goal.returns
returns c =
    let k : c.loop-k.k ≡ 45 = omega (arith, c.as_chunks.ensures.front_len, c.loop-k-test.false, length-take-le 405 c.args.word.now.symbols (omega (arith, c.args.word.now.elements.full))) in
    reading.told_all c.args.word.now.symbols c.loop-k.characters c.loop-k.invalid c.loop-k.fault (subst (λ n. reading.ToldOf c.args.word.now.symbols c.loop-k.characters n c.loop-k.invalid c.loop-k.fault) k c.loop-k.invariant)
