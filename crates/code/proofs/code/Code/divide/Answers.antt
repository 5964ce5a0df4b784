use Rattle.std.proofs.Common.{◌≡◌, ℕ, ◌+◌, ◌*◌, ◌/◌, ◌<◌, List, [], ◌∷◌, ◌++◌, length, get_or, take, drop, sym, refl, ap, ◌∙◌, subst, arith}
use Rattle.std.specs.Simd.{first_chunks}
use Rattle.std.proofs.lemmas.List.{length-take-le, get_or-take, get_or-drop}
use Rattle.code.specs.Polynomials.{advanced}
use Rattle.code.specs.Prepared.{Divided}
use Rattle.code.proofs.Values.{added_small}
use Rattle.code.proofs.Filled.{chunk_at}
use Rattle.code.proofs.Registers.{zeros_small, divided_none, divided_more, advanced_at, length_advanced}
use Rattle.code.proofs.code.Code.divide.Goals as goal

pub loop-x-init : goal.loop-x-init
loop-x-init g c = (refl, zeros_small 44, divided_none (g.met.A.Arithmetic.lawful c.args.self.now.arithmetic) 44 44)

pub loop-x-preserved : goal.loop-x-preserved
loop-x-preserved g c =
    let code = c.args.self.now in
    let f = g.A.Arithmetic.field code.arithmetic in
    let laws = g.met.A.Arithmetic.lawful code.arithmetic in
    let rows = code.tables.rows in
    let multiples = code.ready.multiples in
    let word = c.args.word.now in
    let pairs = c.as_chunks.result.0.now in
    let i = c.loop-x.x-index in
    let r = c.loop-x.register in
    let k = c.from.result in
    let next = c.from-in-loop-x.result in
    let key : k ≡ c.sum-k.result = omega arith in
    let key_2 : next ≡ c.sum-next.result = omega arith in
    let first = get_or rows k [] in
    let second = get_or rows next [] in
    let lr : length r ≡ 44 = c.loop-x.invariant.0 in
    let some : 0 < length r = omega arith in
    let front : length (take 406 word) ≡ 406 = length-take-le 406 word (omega arith) in
    let cut : pairs ≡ first_chunks 2 203 (take 406 word) = c.as_chunks.ensures.front ∙ ap (λ n. first_chunks 2 (n / 2) (take 406 word)) front in
    let count : length pairs ≡ 203 = c.as_chunks.ensures.front_len ∙ ap (λ n. n / 2) front in
    let inside : i < 203 = omega (arith, c.loop-x-test.true) in
    let pair : get_or pairs i [] ≡ take 2 (drop (2 * i) (take 406 word)) = ap (λ q. get_or q i []) cut ∙ chunk_at 2 203 (take 406 word) i inside in
    let symbol : (n : ℕ) → n < 2 → get_or (get_or pairs i []) n 0 ≡ get_or word (2 * i + n) 0 = λ n l.
    let low : 2 * i + n < 406 = omega arith in
    ap (λ q. get_or q n 0) pair ∙ get_or-take 2 (drop (2 * i) (take 406 word)) n 0 l ∙ get_or-drop (2 * i) (take 406 word) n 0 ∙ get_or-take 406 word (2 * i + n) 0 low in
    let at_one : 2 * i + 0 ≡ 2 * i = omega arith in
    let one_in : 2 * i < length word = omega arith in
    let two_in : 2 * i + 1 < length word = omega arith in
    let long : length first ≡ length r = multiples.long k (omega (arith, c.sum-k.ensures.below)) ∙ sym lr in
    let fed = key ∙ c.sum-k.ensures.value ∙ ap (f.plus (get_or r 0 0)) (symbol 0 (omega arith) ∙ ap (λ m. get_or word m 0) at_one) in
    let one : Divided f 44 (take (2 * i + 1) word) (advanced f r first) =
    divided_more laws 44 rows word r (2 * i) k multiples one_in lr (omega arith) (omega (arith, c.sum-k.ensures.below)) fed c.loop-x.invariant.2 in
    let head = key_2 ∙ c.sum-next.ensures.value ∙ ap (f.plus c.sum-head.result) (symbol 1 (omega arith))
    ∙ ap (λ z. f.plus z (get_or word (2 * i + 1) 0)) (c.sum-head.ensures.value ∙ sym (advanced_at laws r first 0 long some)) in
    let two : Divided f 44 (take (2 * i + 1 + 1) word) (advanced f (advanced f r first) second) =
    divided_more laws 44 rows word (advanced f r first) (2 * i + 1) next multiples two_in (length_advanced laws r first some long ∙ lr) (omega arith) (omega (arith, c.sum-next.ensures.below)) head one in
    let moved : c.advance_twice.new.register ≡ advanced f (advanced f r first) second = c.advance_twice.ensures in
    let small : List ℕ → Type 0 = λ q. (n : ℕ) → get_or q n 0 < 512 in
    let further : 2 * i + 1 + 1 ≡ 2 * (i + 1) = omega arith in
    let Good : ℕ → List ℕ → Type 0 = λ n q. Divided f 44 (take n word) q in (
      c.advance_twice.array_long,
      subst small (sym moved) (added_small laws (drop 1 (advanced f r first) ++ (0 ∷ [])) second),
      subst (λ n. Good n c.advance_twice.new.register) further (subst (Good (2 * i + 1 + 1)) (sym moved) two),
    )

pub returns-clause-worth : goal.returns-clause-worth
returns-clause-worth g c =
    let word = c.args.word.now in
    let front : length (take 406 word) ≡ 406 = length-take-le 406 word (omega arith) in
    let count : length c.as_chunks.result.0.now ≡ 203 = c.as_chunks.ensures.front_len ∙ ap (λ n. n / 2) front in
    let done : 2 * c.loop-x.x-index ≡ 406 = omega (arith, c.loop-x-test.false, c.loop-x.auto.x-index-end) in
    let Good : ℕ → Type 0 = λ n. Divided (g.A.Arithmetic.field c.args.self.now.arithmetic) 44 (take n word) c.loop-x.register in
    subst Good done c.loop-x.invariant.2
