use Rattle.server.proofs.workers.run_workers.Goals as goal

pub serve_all-served-requires-clause-rest : goal.serve_all-served-requires-clause-rest
serve_all-served-requires-clause-rest g c = λ lifetimes outlive. c.in_ok-engine.ensures.rest

pub serve_all-served-requires-clause-watch : goal.serve_all-served-requires-clause-watch
serve_all-served-requires-clause-watch g c = λ lifetimes outlive. c.in_ok-engine.ensures.watch
