-- What an end answers some periods later is what its rule says of that period. Assumes nothing.
use Rattle.std.proofs.Common.{◌≡◌, ℕ, ◌+◌, ◌*◌, ◌≤◌, List, [], ◌∷◌, ◌++◌, ℤ, sym, refl, ap, ◌∙◌, subst, ap₂, inl, inr, arith}
use lib.Bits.{bit_xor}
use Rattle.code.specs.Words.{Codeword}
use Rattle.codec.specs.Calls.{Call, send, sender_rest, receive, receiver_rest, faults, LineSent, Told, Accepts, GivesUp, Performs, Answers}
use Rattle.codec.specs.Ends.{End, Later}
use Rattle.codec.specs.Lines.{Near, line_group, line_from, line_frame, differing, apart, padded}
use Rattle.codec.specs.declared.faults.EndFault.{EndFault}
use Rattle.codec.specs.declared.lock.Lock.{Lock}
use Rattle.codec.specs.declared.request.Outcome.{Outcome}
use Rattle.codec.proofs.Answered.{FirstOr}

pub no_later : (end : End) → Later 0 end end
no_later end = record { arithmetic = refl; masks = λ k. ap end.mask (omega arith); code = refl }

-- the masks from two places on are the same
line_shift : (pair : ℕ → ℤ × ℤ) (mask other : ℕ → ℕ) (j m : ℕ) (word : List ℕ) → ((k : ℕ) → mask (j + k) ≡ other (m + k)) → line_from pair mask j word ≡ line_from pair other m word
unfolding line_from
line_shift pair mask other j m [] h = refl
line_shift pair mask other j m (c ∷ word) h =
    let here : mask j ≡ other m = ap mask (omega arith) ∙ h 0 ∙ ap other (omega arith) in
    let on : (k : ℕ) → mask (j + 1 + k) ≡ other (m + 1 + k) = λ k. ap mask (omega arith) ∙ h (1 + k) ∙ ap other (omega arith) in
    ap₂ ◌++◌ (ap (λ x. line_group pair (bit_xor c x)) here) (line_shift pair mask other (j + 1) (m + 1) word on)

module _ (n : ℕ) (end after : End) (l : Later n end after) where
  pub later_frame : (word : List ℕ) → line_frame after 0 word ≡ line_frame end n word
  unfolding line_frame
  later_frame word =
      ap (λ p. line_from p after.mask (450 * 0) word) l.code
      ∙ line_shift end.pair after.mask end.mask (450 * 0) (450 * n) word (λ k. ap after.mask (omega arith) ∙ l.masks k)

  near_here : (line : List ℤ) (word : List ℕ) → Near after 0 line word → Near end n line word
  near_here line word h = record {
    codeword = subst (λ f. Codeword f word) l.arithmetic h.codeword;
    within = subst (λ f. apart line f ≤ 22) (later_frame word) h.within;
  }

  near_there : (line : List ℤ) (word : List ℕ) → Near end n line word → Near after 0 line word
  near_there line word h = record {
    codeword = subst (λ f. Codeword f word) (sym l.arithmetic) h.codeword;
    within = subst (λ f. apart line f ≤ 22) (sym (later_frame word)) h.within;
  }

  sent_here : (characters : List ℕ) (symbol : ℕ) (line : List ℤ) → LineSent after 0 characters symbol line → LineSent end n characters symbol line
  sent_here characters symbol line h = record {
    word = h.word;
    codeword = subst (λ f. Codeword f h.word) l.arithmetic h.codeword;
    carries = h.carries;
    written = h.written ∙ later_frame h.word;
  }

  accepts_here : (line : List ℤ) (left : Call) (outcome : Outcome) → Accepts after 0 line left outcome → Accepts end n line left outcome
  accepts_here line left outcome h = record {
    word = h.word;
    near = near_here line h.word h.near;
    characters = h.characters;
    report = h.report;
    told = subst (λ f. Told h.word h.characters (differing line f) h.report) (later_frame h.word) h.told;
    leaves = subst (λ f. left ≡ receive line h.characters (padded (differing line f))) (later_frame h.word) h.leaves;
    reports = h.reports;
  }

  gives_up_here : (line : List ℤ) (left : Call) (outcome : Outcome) → GivesUp after 0 line left outcome → GivesUp end n line left outcome
  gives_up_here line left outcome h = record { none_near = λ word near. h.none_near word (near_there line word near); leaves = h.leaves; reports = h.reports }

  performs_here : (asked left : Call) (outcome : Outcome) → Performs after 0 asked left outcome → Performs end n asked left outcome
  performs_here (send characters symbol buffer) left outcome (line, s, e, d) = (line, sent_here characters symbol line s, e, d)
  performs_here (sender_rest buffer) left outcome h = h
  performs_here (receive line characters places) left outcome (inl a) = inl (accepts_here line left outcome a)
  performs_here (receive line characters places) left outcome (inr u) = inr (gives_up_here line left outcome u)
  performs_here receiver_rest left outcome h = h

  either_here : (found : List EndFault) (asked left : Call) (outcome : Outcome)
      → FirstOr (Performs after 0 asked left outcome) found left asked outcome
      → FirstOr (Performs end n asked left outcome) found left asked outcome
  either_here [] asked left outcome h = performs_here asked left outcome h
  either_here (fault ∷ more) asked left outcome h = h

  pub answers_here : (lock : Lock) (asked left : Call) (outcome : Outcome) → Answers after 0 lock asked left outcome → Answers end n lock asked left outcome
  answers_here lock asked left outcome h = either_here (faults lock asked) asked left outcome h

pub later_on : (m n : ℕ) (a b c : End) → Later m a b → Later n b c → Later (m + n) a c
later_on m n a b c p q = record {
  arithmetic = q.arithmetic ∙ p.arithmetic;
  masks = λ k. q.masks k ∙ p.masks (450 * n + k) ∙ ap a.mask (omega arith);
  code = q.code ∙ p.code;
}
