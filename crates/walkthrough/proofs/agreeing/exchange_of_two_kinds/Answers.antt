use Rattle.std.proofs.Common.{◌≡◌, ℕ, ℤ, sym, refl, subst}
use Rattle.arithmetic.specs.Laws.{Operations}
use Rattle.codec.specs.Ends.{End, made_over, Agree}
use Rattle.walkthrough.proofs.agreeing.exchange_of_two_kinds.Goals as goal

-- two ends over the same arithmetic's meaning, masks and pairs
same : (field : Operations) (mask : ℕ → ℕ) (pair : ℕ → ℤ × ℤ) (sender receiver : End) → sender ≡ made_over field mask pair → receiver ≡ made_over field mask pair → Agree sender receiver
same field mask pair sender receiver s r =
    subst (λ e. Agree e receiver) (sym s) (subst (λ e. Agree (made_over field mask pair) e) (sym r)
    (record { arithmetics = record { sums = λ a b. refl; products = λ a b. refl; inverses = λ a. refl; alphas = refl }; streams = λ k. refl; codes = λ w h. refl }))

pub returns : goal.returns
returns c = record { sent_comes_back = c.exchange.ensures.sent_comes_back (same _ _ _ _ _ c.new-sender.ensures.stands_new c.new-receiver.ensures.stands_new) }
