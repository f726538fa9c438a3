mod ShutLemmas
