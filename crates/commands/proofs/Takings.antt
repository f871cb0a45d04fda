-- What the simple commands are.
use Rattle.std.proofs.Common.{◌≡◌, true, [], inl, inr, subst, refl}
use Rattle.clap.specs.Words.{HasKind, IsAmong, Kinds, is_simple_and_free, kind_of}
use Rattle.clap.specs.declared.error.Error.{Error}
use Rattle.clap.specs.declared.error.kind.ErrorKind.TheVariants.{OutOfMemory}
use Rattle.clap.proofs.OnLiterals.{clap_on_literals}
use Rattle.commands.specs.Simple.{sim, load, serve, call, pair, check, relay}

pub sim_is_simple : is_simple_and_free sim ≡ true
unfolding sim clap_on_literals
sim_is_simple = refl

pub load_is_simple : is_simple_and_free load ≡ true
unfolding load clap_on_literals
load_is_simple = refl

pub serve_is_simple : is_simple_and_free serve ≡ true
unfolding serve clap_on_literals
serve_is_simple = refl

pub call_is_simple : is_simple_and_free call ≡ true
unfolding call clap_on_literals
call_is_simple = refl

pub pair_is_simple : is_simple_and_free pair ≡ true
unfolding pair clap_on_literals
pair_is_simple = refl

pub check_is_simple : is_simple_and_free check ≡ true
unfolding check clap_on_literals
check_is_simple = refl

pub relay_is_simple : is_simple_and_free relay ≡ true
unfolding relay clap_on_literals
relay_is_simple = refl

-- an error of another kind than memory is one of the kinds
pub some_kind : (kinds : Kinds) (e : Error) → HasKind kinds e → (kind_of e ≡ OutOfMemory → ⊥) → kinds ≡ [] → ⊥
some_kind kinds e (inl out) other none = other out
some_kind kinds e (inr among) other none = subst (λ (ks : Kinds). IsAmong (kind_of e) ks) none among
